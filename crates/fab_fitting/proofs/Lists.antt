-- Numbers of lists, read one element after the other.
use Rattle.std.proofs.Common.{◌≡◌, List, [], ◌∷◌, ◌++◌, map, refl, sym, ap, subst}
use Rattle.std.specs.List.{flat_map}
use Rattle.fab_base.proofs.Lists.{all_append}
use Rattle.fab_settings.specs.Numbers.{AllFit, all_of, IsSmall}
use Rattle.fab_base.specs.declared.object.Value.{Value}

pub joined : (xs ys : List Value) → AllFit xs → AllFit ys → AllFit (xs ++ ys)
joined xs ys h k = all_append IsSmall xs ys h k

-- those of equal trees
pub same : {A : Type 0} (f : A → List Value) (x y : A) → x ≡ y → AllFit (f x) → AllFit (f y)
same f x y e h = subst (λ z. AllFit (f z)) e h

joins_lists : {A : Type 0} (f : A → List Value) (xs : List A) → all_of (map f xs) ≡ flat_map f xs
joins_lists f [] = refl
joins_lists f (x ∷ xs) = ap (λ (ns : List Value). f x ++ ns) (joins_lists f xs)

-- those of a slice of the list, one element after the other
pub of_lists : {A : Type 0} (f : A → List Value) (xs ys : List A) → ys ≡ xs → AllFit (flat_map f ys) → AllFit (all_of (map f xs))
of_lists f xs ys e h = subst AllFit (sym (joins_lists f xs)) (same (flat_map f) ys xs e h)
