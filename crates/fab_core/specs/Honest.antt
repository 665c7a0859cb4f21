-- The honest nodes in the order of their numbers.
use Rattle.std.specs.Prelude.{ℕ, zero, suc, List, [], ◌∷◌, ◌++◌, if◌then◌else◌}
use Rattle.fab_node.specs.Standing.{GivenModel}
use Rattle.fab_core.specs.Cores.{is_honest}

-- those below this number
unfoldable pub honest_up : GivenModel → ℕ → List ℕ
honest_up g zero = []
honest_up g (suc n) = honest_up g n ++ (if is_honest g n then n ∷ [] else [])

-- all of them: numbers are below 64
abbrev pub honest_in : GivenModel → List ℕ
honest_in g = honest_up g 64

-- one for each of these nodes, in their order
abbrev pub AreFor : {A : Type 0} → (ℕ → A → Type 0) → List ℕ → List A → Type 0
AreFor P [] [] = Unit {0}
AreFor P (n ∷ ns) (x ∷ xs) = P n x × AreFor P ns xs
AreFor P _ _ = ⊥
