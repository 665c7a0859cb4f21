-- The least labels for the holes of a bundle.
--
-- The holes stand as labels in what the program owes (`Open`). What flows to a hole has to flow on to the label that is put for it;
-- of the labels that fit so the least is taken.
use Rattle.std.specs.Prelude.{◌≡◌, ℕ, suc, ◌+◌, ◌-◌, ◌<◌, nat_lt, if◌then◌else◌, List, [], ◌∷◌, length, Some, slice_get, unwrap_or}
use Rattle.std.specs.List.{flat_map, AllByRecursion, AllZip}
use Rattle.fab_base.specs.Labels.{Flows}
use Rattle.fab_base.specs.Principals.{Leads}
use Rattle.fab_tree.specs.declared.resolved.Resolved.{Resolved}
use Rattle.fab_tree.specs.declared.start.Start.{Start}
use Rattle.fab_language.specs.Flows.{delegations_of}
use Rattle.fab_language.specs.Numbers.{resolved}
use Rattle.fab_labelling.specs.declared.rule.Refusal.{Refusal}
use Rattle.fab_labelling.specs.Claims.{IsWellLabelled}
use Rattle.fab_labelling.specs.Obligations.{Claim, flows, conf, nowhere, declassifies, endorses, holds, answers_for, owed}
use Rattle.fab_labelling.specs.Readers.{label_at}
use Rattle.fab_labelling.specs.Refusals.{IsFirstRefusal}
use Rattle.fab_holes.specs.Holes.{filled, holes}
use Rattle.fab_holes.specs.Open.{opened}

module _ (r : Resolved) where
  -- how many labels are declared; the hole of number h stands as the label of number `count + h`
  abbrev pub count : ℕ
  count = length r.labels

  -- whole labels that flow to a hole
  abbrev pub into_hole : Claim → List (ℕ × ℕ)
  into_hole (flows a b) = if nat_lt b count then [] else (a, b) ∷ []
  into_hole (conf a b) = []
  into_hole (nowhere a) = []
  into_hole (declassifies a b ps) = []
  into_hole (endorses a b ps) = []
  into_hole (holds store class) = []
  into_hole (answers_for worker method p) = []

  abbrev pub into_holes : List (ℕ × ℕ)
  into_holes = flat_map (λ x. into_hole x.claim) (owed (opened r))

  -- a declared label from which a chain of these leads through holes to the hole of this number
  abbrev pub LiesBelow : ℕ → ℕ → Type 0
  LiesBelow l h = (l < count) × ((way : List ℕ) × Leads into_holes l way (count + h))

  -- the one declared label flows to the other
  abbrev pub Goes : ℕ → ℕ → Type 0
  Goes l k = Flows (delegations_of r) (label_at r l) (label_at r k)

  -- a declared label to which each that lies below the hole flows
  abbrev pub Fits : ℕ → ℕ → Type 0
  Fits h k = (k < count) × ((l : ℕ) → LiesBelow l h → Goes l k)

  -- one that fits and flows to each that fits
  abbrev pub IsLowest : ℕ → ℕ → Type 0
  IsLowest h k = Fits h k × ((m : ℕ) → Fits h m → Goes k m)

  -- the first declared of these
  abbrev pub IsLeast : ℕ → ℕ → Type 0
  IsLeast h k = IsLowest h k × ((j : ℕ) → j < k → IsLowest h j → ⊥)

  -- the least labels for this hole and those behind it, in turn
  abbrev pub AreLeast : ℕ → List ℕ → Type 0
  AreLeast h [] = Unit {0}
  AreLeast h (k ∷ ks) = IsLeast h k × AreLeast (suc h) ks

-- the number that stands for a label's: that of a declared label, and for a hole's the one that is chosen
abbrev pub chosen_label : ℕ → List ℕ → ℕ → ℕ
chosen_label count choice l = if nat_lt l count then l else unwrap_or (slice_get choice (l - count)) l

-- ---- what inference answers

-- one declared label for each hole
pub record IsChoice (start : Start) (choice : List ℕ) : Type 0 where
  pub many : length choice ≡ length (holes start)
  pub declared : AllByRecursion (λ k. k < length start.program.labels) choice

-- with these labels for its holes the bundle keeps the rules of labels
abbrev pub Solves : Start → List ℕ → Type 0
Solves start choice = IsWellLabelled (resolved (filled start choice))

-- they are the least, they solve, and each flows to what any other solution has there
pub record IsSolved (start : Start) (choice : List ℕ) : Type 0 where
  pub is_choice : IsChoice start choice
  pub least : AreLeast (resolved start) 0 choice
  pub solves : Solves start choice
  pub below : (other : List ℕ) → IsChoice start other → Solves start other → AllZip (Goes (resolved start)) choice other

-- the first hole that has no least label
pub record HasNoLeast (start : Start) (at : ℕ) : Type 0 where
  pub before : List ℕ
  pub least : AreLeast (resolved start) 0 before
  pub none : (k : ℕ) → IsLeast (resolved start) (length before) k → ⊥
  pub place : slice_get (holes start) (length before) ≡ Some at

-- each hole has a least label, their choice is refused so, and nothing solves
pub record HasNoSolution (start : Start) (refusal : Refusal) : Type 0 where
  pub choice : List ℕ
  pub is_choice : IsChoice start choice
  pub least : AreLeast (resolved start) 0 choice
  pub refused : IsFirstRefusal (resolved (filled start choice)) refusal
  pub none : (other : List ℕ) → IsChoice start other → Solves start other → ⊥
