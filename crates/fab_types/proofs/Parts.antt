-- The first fault in several parts.
use Rattle.std.proofs.Common.{◌≡◌, ℕ, suc, ◌+◌, ◌<◌, sym, ap, ◌∙◌, List, ◌++◌, Option, drop, length, get_or, drop-cons, add-one}
use Rattle.std.specs.List.{flat_map}
use Rattle.fab_language.specs.declared.rule.Fault.{Fault}
use Rattle.fab_rules.specs.First.{first_from}
use Rattle.fab_rules.proofs.Firsts.{in_parts}

-- one part after another
pub in_two : (first a b : Option Fault) (xs ys : List Fault) → a ≡ first_from first xs → b ≡ first_from a ys → b ≡ first_from first (xs ++ ys)
in_two first a b xs ys f g = g ∙ ap (λ c. first_from c ys) f ∙ sym (in_parts first xs ys)

pub in_three : (first a b c : Option Fault) (xs ys zs : List Fault) → a ≡ first_from first xs → b ≡ first_from a ys → c ≡ first_from b zs → c ≡ first_from first (xs ++ ys ++ zs)
in_three first a b c xs ys zs f g h = in_two first b c (xs ++ ys) zs (in_two first a b xs ys f g) h

-- one more of a list, of which the rest is still to come
pub one_more : {A : Type 0} (f : A → List Fault) (whole first next : Option Fault) (xs : List A) (i : ℕ) (x : A) →
    i < length xs → x ≡ get_or xs i x → first_from first (flat_map f (drop i xs)) ≡ whole → next ≡ first_from first (f x) → first_from next (flat_map f (drop (i + 1) xs)) ≡ whole
one_more f whole first next xs i x within is so_far more =
    ap (λ n. first_from n (flat_map f (drop (i + 1) xs))) more
    ∙ sym (in_parts first (f x) (flat_map f (drop (i + 1) xs)))
    ∙ ap (λ k. first_from first (f x ++ flat_map f (drop k xs))) (add-one i)
    ∙ ap (λ y. first_from first (f y ++ flat_map f (drop (suc i) xs))) is
    ∙ ap (λ l. first_from first (flat_map f l)) (sym (drop-cons xs i x within))
    ∙ so_far
