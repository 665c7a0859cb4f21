-- The reply to whether one label flows to another, with its reasons.
--
-- A label flows to another where each of its confidentiality policies is covered by one of the other's, and each of
-- the other's integrity policies by one of its own. The reply names for each of these the first that covers it, and
-- the best chain of delegations between the owners; or it names the first that nothing covers.
use Rattle.std.specs.Prelude.{◌≡◌, ℕ, ◌<◌, List, [], ◌∷◌, ◌++◌, length, take, Option, Some, None, option_map, slice_get, codes, All, Any}
use Rattle.std.specs.List.{flat_map}
use Rattle.fab_base.specs.declared.label.Policy.{Policy}
use Rattle.fab_base.specs.declared.label.Label.{Label}
use Rattle.fab_base.specs.Principals.{Delegations, IsBestChain}
use Rattle.fab_base.specs.Labels.{Covers, IsFirstCover, Flows}
use Rattle.fab_tree.specs.declared.resolved.Resolved.{Resolved}
use Rattle.fab_language.specs.Words.{line, text_or}

-- the declared delegations of a bundle
abbrev pub delegations_of : Resolved → Delegations
delegations_of r = record { count = length r.nodes; pairs = r.pairs }

-- ---- policies and chains as they are printed

-- the name of the principal of a number
abbrev pub principal_text : Resolved → ℕ → List ℕ
principal_text r n = text_or [] (option_map (λ x. x.name.text) (slice_get r.nodes n))

-- names with a comma and a space between
abbrev pub listed : Resolved → List ℕ → List ℕ
listed r [] = []
listed r (n ∷ ns) = principal_text r n ++ flat_map (λ m. codes ", " ++ principal_text r m) ns

-- members behind a space, if there are any
abbrev pub members_text : Resolved → List ℕ → List ℕ
members_text r [] = []
members_text r (n ∷ ns) = 32 ∷ listed r (n ∷ ns)

-- `o -> a, b` or `o <- a, b`, by the sign, as a label prints it
abbrev pub policy_text : Resolved → List ℕ → Policy → List ℕ
policy_text r sign x = principal_text r x.owner ++ 32 ∷ sign ++ members_text r x.others

-- the names of a chain with a space between
abbrev pub chain_text : Resolved → List ℕ → List ℕ
chain_text r [] = []
chain_text r (n ∷ ns) = principal_text r n ++ flat_map (λ m. 32 ∷ principal_text r m) ns

-- a policy, the one that covers it, and the chain from that one's owner to its owner
abbrev pub cover_line : Resolved → List ℕ → Policy → Policy → List ℕ → List ℕ
cover_line r sign i j chain = line (policy_text r sign i ++ codes " by " ++ policy_text r sign j ++ codes " via " ++ chain_text r chain)

-- ---- reasons

-- the first policy of these that covers this one
pub record IsCoveredBy (r : Resolved) (by : List Policy) (i j : Policy) : Type 0 where
  pub at : ℕ
  pub first : IsFirstCover (delegations_of r) by i (Some at)
  pub is : slice_get by at ≡ Some j

-- a line for each policy, in their order
pub data AreCoverLines (r : Resolved) (sign : List ℕ) (by : List Policy) : List Policy → List ℕ → Type 0 where
  none : AreCoverLines r sign by [] []
  one_more : {i j : Policy} {is : List Policy} {chain text : List ℕ}
      → IsCoveredBy r by i j → IsBestChain (delegations_of r) j.owner i.owner chain → AreCoverLines r sign by is text
      → AreCoverLines r sign by (i ∷ is) (cover_line r sign i j chain ++ text)

-- one of these covers the policy
abbrev pub HasCover : Resolved → List Policy → Policy → Type 0
HasCover r by i = Any (λ j. Covers (delegations_of r) j i) by

-- the first of these policies that none of the others covers
pub record IsFirstUncovered (r : Resolved) (by : List Policy) (policies : List Policy) (i : Policy) : Type 0 where
  pub at : ℕ
  pub is : slice_get policies at ≡ Some i
  pub uncovered : ¬ HasCover r by i
  pub before : All (λ x. HasCover r by x) (take at policies)

-- ---- the reply

-- what is replied to whether label a flows to label b
pub data FlowReply (r : Resolved) (a b : Label) : List ℕ → Type 0 where
  yes : {conf integ : List ℕ}
      → Flows (delegations_of r) a b
      → AreCoverLines r (codes "->") b.conf a.conf conf → AreCoverLines r (codes "<-") a.integ b.integ integ
      → FlowReply r a b (line (codes "yes") ++ conf ++ integ)
  no_confidentiality : {i : Policy}
      → ¬ Flows (delegations_of r) a b
      → IsFirstUncovered r b.conf a.conf i
      → FlowReply r a b (line (codes "no") ++ line (policy_text r (codes "->") i))
  no_integrity : {j : Policy}
      → ¬ Flows (delegations_of r) a b
      → All (λ i. HasCover r b.conf i) a.conf → IsFirstUncovered r a.integ b.integ j
      → FlowReply r a b (line (codes "no") ++ line (policy_text r (codes "<-") j))

-- this is the reply, and there is no other
pub record IsFlowReply (r : Resolved) (a b : Label) (text : List ℕ) : Type 0 where
  pub is : FlowReply r a b text
  pub only : (other : List ℕ) → FlowReply r a b other → other ≡ text
