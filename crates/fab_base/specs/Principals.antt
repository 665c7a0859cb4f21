-- Who acts for whom. Principals are numbers.
use Rattle.std.specs.Prelude.{◌≡◌, ℕ, ◌<◌, ◌≤◌, ◌⊎◌, List, [], ◌∷◌, length, Contains}

-- How many principals there are, and the declared delegations, (p, q) for `p actsfor q`.
pub record Delegations : Type 0 where
  pub count : ℕ
  pub pairs : List (ℕ × ℕ)

-- from p one comes by the principals of the list, in order, to q, each step a declared delegation
abbrev pub Leads : List (ℕ × ℕ) → ℕ → List ℕ → ℕ → Type 0
Leads pairs p [] q = p ≡ q
Leads pairs p (x ∷ rest) q = Contains pairs (p, x) × Leads pairs x rest q

-- a chain begins with p, ends with q, and each neighbouring pair in it is a declared delegation
abbrev pub IsChain : Delegations → ℕ → ℕ → List ℕ → Type 0
IsChain d p q [] = ⊥
IsChain d p q (first ∷ rest) = (first ≡ p) × Leads d.pairs p rest q

-- p acts for q where there is a chain from p to q; the list of p alone is one from p to p
abbrev pub ActsFor : Delegations → ℕ → ℕ → Type 0
ActsFor d p q = (chain : List ℕ) × IsChain d p q chain

-- at the first place where the two differ the first list has the smaller number, or it ends
abbrev pub IsNoGreater : List ℕ → List ℕ → Type 0
IsNoGreater [] ys = Unit {0}
IsNoGreater (x ∷ xs) [] = ⊥
IsNoGreater (x ∷ xs) (y ∷ ys) = (x < y) ⊎ ((x ≡ y) × IsNoGreater xs ys)

-- a chain from p to q that is shortest, and of the shortest the one with the least numbers from the left
pub record IsBestChain (d : Delegations) (p q : ℕ) (chain : List ℕ) : Type 0 where
  pub is_chain : IsChain d p q chain
  pub shortest : (other : List ℕ) → IsChain d p q other → length chain ≤ length other
  pub least : (other : List ℕ) → IsChain d p q other → length other ≡ length chain → IsNoGreater chain other
