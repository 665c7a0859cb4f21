-- Labels of the decentralized label model: what policies deny, and which labels flow to which.
use Rattle.std.specs.Prelude.{ℕ, ◌⊎◌, List, [], ◌∷◌, take, Option, Some, None, IsSomeAnd, slice_get, Any, All, IsBitSet}
use Rattle.fab_base.specs.declared.label.Policy.{Policy}
use Rattle.fab_base.specs.declared.label.Label.{Label}
use Rattle.fab_base.specs.Principals.{Delegations, ActsFor}

-- p acts for at least one of these
abbrev pub ActsForOne : Delegations → ℕ → List ℕ → Type 0
ActsForOne d p qs = Any (λ q. ActsFor d p q) qs

-- A policy of owner o and members R, as `o -> R` or `o <- R`, denies the pair of a principal p and a
-- group where o acts for p, and nobody in the group acts for o or for a member. A group is any list.
pub record PolicyDenies (d : Delegations) (policy : Policy) (p : ℕ) (group : List ℕ) : Type 0 where
  pub owner : ActsFor d policy.owner p
  pub outside : All (λ m. ¬ ActsForOne d m (policy.owner ∷ policy.others)) group

-- policies deny what one of them denies
abbrev pub Deny : Delegations → List Policy → ℕ → List ℕ → Type 0
Deny d policies p group = Any (λ policy. PolicyDenies d policy p group) policies

-- confidentiality may only be added: what a denies, b denies
abbrev pub FlowsConf : Delegations → Label → Label → Type 0
FlowsConf d a b = (p : ℕ) (group : List ℕ) → Deny d a.conf p group → Deny d b.conf p group

-- integrity may only be lost: what b denies, a denies
abbrev pub FlowsInteg : Delegations → Label → Label → Type 0
FlowsInteg d a b = (p : ℕ) (group : List ℕ) → Deny d b.integ p group → Deny d a.integ p group

-- a label flows to another in confidentiality and in integrity
pub record Flows (d : Delegations) (a b : Label) : Type 0 where
  pub conf : FlowsConf d a b
  pub integ : FlowsInteg d a b

-- `o ->` or `o <-`, the policy of an owner alone
abbrev pub alone : ℕ → Policy
alone o = record { owner = o; others = [] }

-- what policies deny together with that of each principal of a set alone; bit o of the set stands for o
abbrev pub DenyWith : Delegations → List Policy → ℕ → ℕ → List ℕ → Type 0
DenyWith d policies set p group = Deny d policies p group ⊎ ((o : ℕ) × IsBitSet set o × PolicyDenies d (alone o) p group)

-- from a to b may be declassified with the authority of a set of principals
pub record DeclassifyOk (d : Delegations) (a b : Label) (authority : ℕ) : Type 0 where
  pub conf : (p : ℕ) (group : List ℕ) → Deny d a.conf p group → DenyWith d b.conf authority p group
  pub integ : FlowsInteg d a b

-- from a to b may be endorsed with the authority of a set of principals
pub record EndorseOk (d : Delegations) (a b : Label) (authority : ℕ) : Type 0 where
  pub conf : FlowsConf d a b
  pub integ : (p : ℕ) (group : List ℕ) → Deny d b.integ p group → DenyWith d a.integ authority p group

-- Policy j covers policy i: j's owner acts for i's, and each member of j for i's owner or for a member of i.
pub record Covers (d : Delegations) (j i : Policy) : Type 0 where
  pub owner : ActsFor d j.owner i.owner
  pub members : All (λ m. ActsForOne d m (i.owner ∷ i.others)) j.others

-- the place of the first policy that covers i, and none where none does
abbrev pub IsFirstCover : Delegations → List Policy → Policy → Option ℕ → Type 0
IsFirstCover d policies i None = ¬ Any (λ j. Covers d j i) policies
IsFirstCover d policies i (Some k) = IsSomeAnd (slice_get policies k) (λ j. Covers d j i) × (¬ Any (λ j. Covers d j i) (take k policies))
