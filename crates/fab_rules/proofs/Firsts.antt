-- The first of faults: in parts, and in whatever order.
use Rattle.std.proofs.Common.{◌≡◌, refl, List, [], ◌∷◌, ◌++◌, Option}
use Rattle.fab_language.specs.declared.rule.Fault.{Fault}
use Rattle.fab_rules.specs.First.{first_from, sooner}

-- the first of two lists is that of the second, from the first of the first
pub in_parts : (first : Option Fault) (xs ys : List Fault) → first_from first (xs ++ ys) ≡ first_from (first_from first xs) ys
in_parts first [] ys = refl
in_parts first (x ∷ xs) ys = in_parts (sooner first x) xs ys
