-- What is found among locals and among what contracts see of them.
use Rattle.std.proofs.Common.{◌≡◌, refl, Bool, true, false, List, [], ◌∷◌, find, Option, Some, option_map, if◌then◌else◌, ap, ◌∙◌}
use Rattle.fab_tree.specs.declared.name.Name.{Name}
use Rattle.fab_language.specs.Names.{named, local_name, is_same_name}
use Rattle.fab_rules.specs.declared.known.Local.{Local}
use Rattle.fab_rules.specs.Known.{parameter_of, shown}

either : (b : Bool) (l : Local) (r : Option Local) → option_map parameter_of (if b then Some l else r) ≡ (if b then Some (parameter_of l) else option_map parameter_of r)
either true l r = refl
either false l r = refl

pub found_shown : (x : Name) (ls : List Local) → option_map parameter_of (find (λ l. is_same_name l.name.now x) ls) ≡ named local_name (shown ls) x
found_shown x [] = refl
found_shown x (l ∷ ls) =
    either (is_same_name l.name.now x) l (find (λ m. is_same_name m.name.now x) ls)
    ∙ ap (λ r. if is_same_name l.name.now x then Some (parameter_of l) else r) (found_shown x ls)
