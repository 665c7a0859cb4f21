-- Numbers that stand for principals.
use Rattle.std.specs.Prelude.{ℕ, ◌<◌, ◌≤◌, List, length, All}
use Rattle.fab_base.specs.declared.label.Policy.{Policy}
use Rattle.fab_base.specs.declared.label.Label.{Label}
use Rattle.fab_tree.specs.declared.resolved.Resolved.{Resolved}

-- each policy's owner is one of so many principals
abbrev pub AreOwned : ℕ → List Policy → Type 0
AreOwned n policies = All (λ x. x.owner < n) policies

-- so is the owner of each policy of a label
pub record HasOwners (n : ℕ) (a : Label) : Type 0 where
  pub conf : AreOwned n a.conf
  pub integ : AreOwned n a.integ

-- a bundle has few principals, and its delegations and its labels are theirs
pub record HasPrincipals (r : Resolved) : Type 0 where
  pub few : length r.nodes ≤ 64
  pub delegations : All (λ d. (d.0 < length r.nodes) × (d.1 < length r.nodes)) r.pairs
  pub labels : All (λ x. HasOwners (length r.nodes) x.label) r.labels
