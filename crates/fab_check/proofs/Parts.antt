-- What is noted in parts.
use Rattle.std.proofs.Common.{◌≡◌, ℕ, suc, ◌+◌, ◌<◌, ◌≤◌, refl, sym, ap, ◌∙◌, List, [], ◌∷◌, ◌++◌, Option, drop, length, get_or, append_assoc, arith, map, take}
use Rattle.fab_tree.specs.declared.resolved.Resolved.{Resolved}
use Rattle.fab_labelling.specs.declared.rule.Refusal.{Refusal}
use Rattle.fab_labelling.specs.Obligations.{Owed}
use Rattle.fab_check.specs.Noted.{Noting, noted, all_noted}
use Rattle.fab_authority.proofs.Walks.{both, end, front, step, three}

noted_in_parts : (r : Resolved) (first : Option Refusal) (xs ys : List Owed) → noted r first (xs ++ ys) ≡ noted r (noted r first xs) ys
noted_in_parts r first [] ys = refl
noted_in_parts r first (x ∷ xs) ys = noted_in_parts r (noted r first (x ∷ [])) xs ys

-- of two lists the second is noted behind the first
pub in_parts : (n : Noting) (xs ys : List Owed) → all_noted n (xs ++ ys) ≡ all_noted (all_noted n xs) ys
unfolding all_noted
in_parts n xs ys = ap (λ (f : Option Refusal). record n { first = f }) (noted_in_parts n.start n.first xs ys)

pub in_none : (n : Noting) → all_noted n [] ≡ n
unfolding all_noted
in_none n = refl

pub start_stays : (n : Noting) (xs : List Owed) → (all_noted n xs).start ≡ n.start
unfolding all_noted
start_stays n xs = refl

-- one element more of a list, of which the rest is still to come
module _ {A : Type 0} (F : List A → List Owed) (f : A → List Owed) (by_cons : (x : A) (xs : List A) → F (x ∷ xs) ≡ f x ++ F xs) where
  pub behind_one : (n m whole : Noting) (x : A) (xs : List A) → m ≡ all_noted n (f x) → all_noted n (F (x ∷ xs)) ≡ whole → all_noted m (F xs) ≡ whole
  behind_one n m whole x xs is so_far = ap (λ (k : Noting). all_noted k (F xs)) is ∙ sym (in_parts n (f x) (F xs)) ∙ ap (all_noted n) (sym (by_cons x xs)) ∙ so_far

  pub one_more : (n m whole : Noting) (xs : List A) (i : ℕ) (x : A) → i < length xs → x ≡ get_or xs i x → m ≡ all_noted n (f x) → all_noted n (F (drop i xs)) ≡ whole → all_noted m (F (drop (i + 1) xs)) ≡ whole
  one_more n m whole xs i x within is next so_far = step all_noted in_parts F f by_cons n m whole xs i x within is next so_far

-- nothing is left of a list
pub at_none : {A : Type 0} (F : List A → List Owed) (n whole : Noting) (xs : List A) → F [] ≡ [] → length xs ≡ 0 → all_noted n (F xs) ≡ whole → n ≡ whole
at_none F n whole [] nil empty so_far = sym (in_none n) ∙ ap (all_noted n) (sym nil) ∙ so_far
at_none F n whole (x ∷ xs) nil empty so_far = absurd (omega (arith, empty))

pub at_end : {A : Type 0} (F : List A → List Owed) (n whole : Noting) (xs : List A) (i : ℕ) → F [] ≡ [] → length xs ≤ i → all_noted n (F (drop i xs)) ≡ whole → n ≡ whole
at_end F n whole xs i nil past so_far = end all_noted in_parts F nil in_none n whole xs i past so_far

-- one part after another
pub in_two : (n m k : Noting) (xs ys zs : List Owed) → zs ≡ xs ++ ys → m ≡ all_noted n xs → k ≡ all_noted m ys → k ≡ all_noted n zs
in_two n m k xs ys zs is first second = both all_noted in_parts n m k xs ys zs is first second

pub in_three : (n a b k : Noting) (xs ys zs whole : List Owed) → whole ≡ xs ++ ys ++ zs → a ≡ all_noted n xs → b ≡ all_noted a ys → k ≡ all_noted b zs → k ≡ all_noted n whole
in_three n a b k xs ys zs whole is first second third = three all_noted in_parts n a b k xs ys zs whole is first second third

-- the same of what is put behind a list
pub put_two : (out m k xs ys zs : List ℕ) → zs ≡ xs ++ ys → m ≡ out ++ xs → k ≡ m ++ ys → k ≡ out ++ zs
put_two out m k xs ys zs is first second = second ∙ ap (λ (o : List ℕ). o ++ ys) first ∙ append_assoc out xs ys ∙ ap (λ (o : List ℕ). out ++ o) (sym is)

-- one element more of a front of a list
pub one_taken : {A : Type 0} (f : A → ℕ) (out more whole : List ℕ) (xs : List A) (i left k : ℕ) (x : A) → i < length xs → x ≡ get_or xs i x → left ≡ suc k → more ≡ out ++ f x ∷ []
    → out ++ map f (take left (drop i xs)) ≡ whole → more ++ map f (take k (drop (i + 1) xs)) ≡ whole
one_taken {A} f out more whole xs i left k x within is one pushed so_far =
    ap (λ (o : List ℕ). o ++ map f (take k (drop (i + 1) xs))) pushed
    ∙ append_assoc out (f x ∷ []) (map f (take k (drop (i + 1) xs)))
    ∙ ap (λ (ys : List A). out ++ map f (take (suc k) ys)) (sym (front xs i x within is))
    ∙ ap (λ (n : ℕ). out ++ map f (take n (drop i xs))) (sym one)
    ∙ so_far
