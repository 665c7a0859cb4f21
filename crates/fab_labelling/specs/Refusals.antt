-- Which of what doesn't hold a refusal tells.
use Rattle.std.specs.Prelude.{◌≡◌, ◌⊎◌, ℕ, ◌<◌, ◌≤◌, Some, slice_get, option_map, unwrap_or}
use Rattle.fab_tree.specs.declared.resolved.Resolved.{Resolved}
use Rattle.fab_labelling.specs.declared.rule.LabelRule.{LabelRule}
use Rattle.fab_labelling.specs.declared.rule.LabelRule.TheVariants.{Placement, Begin, Atomic, Write, Access, Fail, Declassify, Endorse, Authority}
use Rattle.fab_labelling.specs.declared.rule.Side.{Side}
use Rattle.fab_labelling.specs.declared.rule.Side.TheVariants.{Label, Principal, Absent}
use Rattle.fab_labelling.specs.declared.rule.Refusal.{Refusal}
use Rattle.fab_labelling.specs.Readers.{principal_of}
use Rattle.fab_labelling.specs.Obligations.{Claim, flows, conf, nowhere, declassifies, endorses, holds, answers_for, Owed, owed}
use Rattle.fab_labelling.specs.Claims.{Holds}

-- the order of the rules at one place
abbrev pub rank : LabelRule → ℕ
rank Placement = 0
rank Begin = 1
rank Atomic = 2
rank Write = 3
rank Access = 4
rank Fail = 5
rank Declassify = 6
rank Endorse = 7
rank Authority = 8

-- ---- what a refusal tells

abbrev pub class_label : Resolved → ℕ → ℕ
class_label r class = unwrap_or (option_map (λ c. c.label.number) (slice_get r.classes class)) 0

-- what doesn't flow, or whoever isn't let
abbrev pub source : Resolved → Claim → Side
source r (flows a b) = Label a
source r (conf a b) = Label a
source r (nowhere a) = Label a
source r (declassifies a b ps) = Label a
source r (endorses a b ps) = Label a
source r (holds store class) = Label (class_label r class)
source r (answers_for worker method p) = Principal (principal_of r worker)

-- where it doesn't flow, or for whom
abbrev pub target : Resolved → Claim → Side
target r (flows a b) = Label b
target r (conf a b) = Label b
target r (nowhere a) = Absent
target r (declassifies a b ps) = Label b
target r (endorses a b ps) = Label b
target r (holds store class) = Principal (principal_of r store)
target r (answers_for worker method p) = Principal p

abbrev pub told : Resolved → Owed → Refusal
told r x = record { rule = x.rule; at = x.at; source = source r x.claim; target = target r x.claim }

-- ---- which is told

-- the one comes before the other: by its place, then by its rule, then as they stand in the list
abbrev pub IsNoLater : Owed → ℕ → Owed → ℕ → Type 0
IsNoLater x i y j = (x.at < y.at) ⊎ ((x.at ≡ y.at) × ((rank x.rule < rank y.rule) ⊎ ((rank x.rule ≡ rank y.rule) × (i ≤ j))))

-- the first that is owed and doesn't hold
pub record IsFirstRefusal (r : Resolved) (refusal : Refusal) : Type 0 where
  pub x : Owed
  pub i : ℕ
  pub is : slice_get (owed r) i ≡ Some x
  pub broken : ¬ Holds r x.claim
  pub first : (y : Owed) (j : ℕ) → slice_get (owed r) j ≡ Some y → ¬ Holds r y.claim → IsNoLater x i y j
  pub tells : refusal ≡ told r x
