-- When what a bundle owes its labels holds.
use Rattle.std.specs.Prelude.{ℕ, suc, ◌↔◌, List, [], ◌∷◌, ◌++◌, map, All, Contains, IsSomeAnd, slice_get, IsBitSet}
use Rattle.std.specs.List.{flat_map}
use Rattle.fab_base.specs.Principals.{ActsFor, Leads}
use Rattle.fab_base.specs.Labels.{Flows, FlowsConf, DeclassifyOk, EndorseOk}
use Rattle.fab_tree.specs.declared.resolved.Right.{Right}
use Rattle.fab_tree.specs.declared.resolved.Right.TheVariants as rights
use Rattle.fab_tree.specs.declared.resolved.Statement.{Statement, fold-Statement}
use Rattle.fab_tree.specs.declared.resolved.Statement.TheOpen as s
use Rattle.fab_tree.specs.declared.resolved.Method.{Method}
use Rattle.fab_tree.specs.declared.resolved.Resolved.{Resolved}
use Rattle.fab_language.specs.Flows.{delegations_of}
use Rattle.fab_labelling.specs.Readers.{label_at, principal_of}
use Rattle.fab_labelling.specs.Placement.{MayHoldNumber}
use Rattle.fab_labelling.specs.Obligations.{Claim, flows, conf, nowhere, declassifies, endorses, holds, answers_for, authority_of, owed}

-- ---- which methods a method reaches

abbrev pub called_by_right : Right → List ℕ
called_by_right (rights.Plain e) = []
called_by_right (rights.Call x es) = x.number ∷ []
called_by_right (rights.New x store es site at) = []
called_by_right (rights.Downgrade d e from to site at) = []

abbrev pub all_called : List (List ℕ) → List ℕ
all_called = flat_map (λ ns. ns)

abbrev pub called_step : s.Statement-F (List ℕ) → List ℕ
called_step (s.Assign x r at) = called_by_right r
called_step (s.Write x field e site) = []
called_step (s.Call x es) = x.number ∷ []
called_step (s.If e block otherwise) = all_called block ++ all_called otherwise
called_step (s.While e block) = all_called block
called_step (s.Atomic x block otherwise at) = all_called block ++ all_called otherwise
called_step (s.Fail at) = []

-- the methods that are called in a statement's text
abbrev pub called_in : Statement → List ℕ
called_in = fold-Statement (List ℕ) called_step

-- the method of this number, and those behind it, with each method that one calls
abbrev pub calls_from : ℕ → List Method → List (ℕ × ℕ)
calls_from n [] = []
calls_from n (m ∷ ms) = map (λ k. (n, k)) (flat_map called_in m.body) ++ calls_from (suc n) ms

abbrev pub calls_of : Resolved → List (ℕ × ℕ)
calls_of r = calls_from 0 r.methods

-- by calls in the text one comes from the one method to the other; from each to itself
abbrev pub ReachesMethod : Resolved → ℕ → ℕ → Type 0
ReachesMethod r m n = (way : List ℕ) × Leads (calls_of r) m way n

-- the authority of the method is that of the principal, too
abbrev pub HasAuthorityOf : Resolved → ℕ → ℕ → Type 0
HasAuthorityOf r n p = IsSomeAnd (slice_get r.methods n) (λ m. Contains (authority_of m) p)

-- ---- claims

-- the bits of a set are those of these numbers
abbrev pub IsSetOf : List ℕ → ℕ → Type 0
IsSetOf ps set = (p : ℕ) → IsBitSet set p ↔ Contains ps p

abbrev pub Holds : Resolved → Claim → Type 0
Holds r (flows a b) = Flows (delegations_of r) (label_at r a) (label_at r b)
Holds r (conf a b) = FlowsConf (delegations_of r) (label_at r a) (label_at r b)
Holds r (nowhere a) = ⊥
Holds r (declassifies a b ps) = (set : ℕ) × IsSetOf ps set × DeclassifyOk (delegations_of r) (label_at r a) (label_at r b) set
Holds r (endorses a b ps) = (set : ℕ) × IsSetOf ps set × EndorseOk (delegations_of r) (label_at r a) (label_at r b) set
Holds r (holds store class) = MayHoldNumber r (delegations_of r) store class
Holds r (answers_for worker method p) = (n : ℕ) → ReachesMethod r method n → HasAuthorityOf r n p → ActsFor (delegations_of r) (principal_of r worker) p

-- a bundle is well labelled where all that it owes holds
abbrev pub IsWellLabelled : Resolved → Type 0
IsWellLabelled r = All (λ x. Holds r x.claim) (owed r)
