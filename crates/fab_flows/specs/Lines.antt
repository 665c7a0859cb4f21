-- What a search for covering policies wrote, and what it found.
use Rattle.std.specs.Prelude.{◌≡◌, ℕ, List, [], ◌∷◌, ◌++◌, Some, slice_get}
use Rattle.std.specs.List.{flat_map}
use Rattle.fab_base.specs.declared.label.Policy.{Policy}
use Rattle.fab_base.specs.Principals.{IsBestChain}
use Rattle.fab_tree.specs.declared.resolved.Resolved.{Resolved}
use Rattle.fab_language.specs.Flows.{AreCoverLines, IsFirstUncovered, cover_line, delegations_of, principal_text}

-- names with a mark between
abbrev pub named : Resolved → List ℕ → List ℕ → List ℕ
named r mark [] = []
named r mark (n ∷ ns) = principal_text r n ++ flat_map (λ m. mark ++ principal_text r m) ns

-- a text grew by the line of a policy that another covers
pub record GrowsByLine (r : Resolved) (sign : List ℕ) (i j : Policy) (old new : List ℕ) : Type 0 where
  pub chain : List ℕ
  pub best : IsBestChain (delegations_of r) j.owner i.owner chain
  pub whole : new ≡ old ++ cover_line r sign i j chain

-- a text grew by a line for each policy
pub record GrowsByLines (r : Resolved) (sign : List ℕ) (by policies : List Policy) (old new : List ℕ) : Type 0 where
  pub added : List ℕ
  pub lines : AreCoverLines r sign by policies added
  pub whole : new ≡ old ++ added

-- at this place stands the first policy that none of the others covers
pub record IsFirstUncoveredAt (r : Resolved) (by policies : List Policy) (at : ℕ) : Type 0 where
  pub policy : Policy
  pub is : slice_get policies at ≡ Some policy
  pub first : IsFirstUncovered r by policies policy
