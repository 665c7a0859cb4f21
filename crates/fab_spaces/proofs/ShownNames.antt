-- The names that locals have twice are those that contracts see.
use Rattle.std.proofs.Common.{◌≡◌, Bool, List, [], ◌∷◌, ◌++◌, map, refl, ap, ◌∙◌, if◌then◌else◌, ◌||◌}
use Rattle.std.specs.List.{list_any}
use Rattle.fab_tree.specs.declared.name.Name.{Name}
use Rattle.fab_language.specs.declared.rule.Fault.{Fault}
use Rattle.fab_language.specs.declared.rule.NameRule.TheVariants.{Doubled}
use Rattle.fab_language.specs.Doubled.{repeats, repeats_behind}
use Rattle.fab_language.specs.Names.{is_same_name}

module _ {A B : Type 0} (f : A → B) where
  any_shown : (p : B → Bool) (xs : List A) → list_any (λ x. p (f x)) xs ≡ list_any p (map f xs)
  any_shown p [] = refl
  any_shown p (x ∷ xs) = ap (λ b. p (f x) || b) (any_shown p xs)

  one_shown : (xs : List A) (x : A) → map f (xs ++ x ∷ []) ≡ map f xs ++ f x ∷ []
  one_shown [] x = refl
  one_shown (y ∷ ys) x = ap (λ l. f y ∷ l) (one_shown ys x)

  module _ (name : B → Name) where
    behind_shown : (front xs : List A) → repeats_behind (λ x. name (f x)) front xs ≡ repeats_behind name (map f front) (map f xs)
    behind_shown front [] = refl
    behind_shown front (x ∷ xs) =
        let D : Bool → List Fault = λ b. if b then record { rule = Doubled; at = (name (f x)).at } ∷ [] else [] in
        ap (λ b. D b ++ repeats_behind (λ x. name (f x)) (front ++ x ∷ []) xs) (any_shown (λ y. is_same_name (name y) (name (f x))) front)
        ∙ ap (λ l. D (list_any (λ y. is_same_name (name y) (name (f x))) (map f front)) ++ l) (behind_shown (front ++ x ∷ []) xs ∙ ap (λ l. repeats_behind name l (map f xs)) (one_shown front x))

    pub repeats_shown : (xs : List A) → repeats (λ x. name (f x)) xs ≡ repeats name (map f xs)
    repeats_shown xs = behind_shown [] xs
