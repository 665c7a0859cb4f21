-- The first of the faults in lists that stand one behind the other.
use Rattle.std.proofs.Common.{◌≡◌, sym, ap, ◌∙◌, List, ◌++◌, Option, fold}
use Rattle.std.specs.List.{flat_map}
use Rattle.fab_language.specs.declared.rule.Fault.{Fault}
use Rattle.fab_rules.specs.First.{first_from}
use Rattle.fab_rules.proofs.Firsts.{in_parts}
use Rattle.fab_spaces.proofs.Parts.{in_each}

-- a list alone
pub begun : {A : Type 0} (f : A → List Fault) (xs : List A) (first r : Option Fault) → r ≡ fold (λ a x. first_from a (f x)) first xs → r ≡ first_from first (flat_map f xs)
begun f xs first r h = h ∙ sym (in_each first f xs)

-- a list behind others
pub behind : {A : Type 0} (f : A → List Fault) (xs : List A) (first r s : Option Fault) (front : List Fault) → s ≡ fold (λ a x. first_from a (f x)) r xs → r ≡ first_from first front → s ≡ first_from first (front ++ flat_map f xs)
behind f xs first r s front h p = h ∙ sym (in_each r f xs) ∙ ap (λ a. first_from a (flat_map f xs)) p ∙ sym (in_parts first front (flat_map f xs))
