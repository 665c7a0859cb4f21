-- A walk that goes on from a state, part by part.
use Rattle.std.proofs.Common.{◌≡◌, ℕ, suc, ◌+◌, ◌<◌, ◌≤◌, refl, sym, ap, ◌∙◌, List, [], ◌∷◌, ◌++◌, drop, length, get_or, drop-cons, length-drop, add-one, arith}

-- the first of what is left of a list, and the rest
pub front : {A : Type 0} (xs : List A) (i : ℕ) (x : A) → i < length xs → x ≡ get_or xs i x → drop i xs ≡ x ∷ drop (i + 1) xs
front {A} xs i x within is = drop-cons xs i x within ∙ ap (λ (y : A). y ∷ drop (suc i) xs) (sym is) ∙ rw add-one refl

module _ {S X : Type 0} (run : S → List X → S) (parts : (n : S) (xs ys : List X) → run n (xs ++ ys) ≡ run (run n xs) ys) where
  pub both : (n m k : S) (xs ys zs : List X) → zs ≡ xs ++ ys → m ≡ run n xs → k ≡ run m ys → k ≡ run n zs
  both n m k xs ys zs is first second = second ∙ ap (λ (o : S). run o ys) first ∙ sym (parts n xs ys) ∙ ap (run n) (sym is)

  pub three : (n a b k : S) (xs ys zs whole : List X) → whole ≡ xs ++ ys ++ zs → a ≡ run n xs → b ≡ run a ys → k ≡ run b zs → k ≡ run n whole
  three n a b k xs ys zs whole is first second third = both n b k (xs ++ ys) zs whole is (both n a b xs ys (xs ++ ys) refl first second) third

  -- one element more of a list, of which the rest is still to come
  pub step : {A : Type 0} (F : List A → List X) (f : A → List X) → ((x : A) (xs : List A) → F (x ∷ xs) ≡ f x ++ F xs) → (n m whole : S) (xs : List A) (i : ℕ) (x : A) →
      i < length xs → x ≡ get_or xs i x → m ≡ run n (f x) → run n (F (drop i xs)) ≡ whole → run m (F (drop (i + 1) xs)) ≡ whole
  step {A} F f by_cons n m whole xs i x within is next so_far =
      ap (λ (k : S). run k (F (drop (i + 1) xs))) next
      ∙ sym (parts n (f x) (F (drop (i + 1) xs)))
      ∙ ap (run n) (sym (by_cons x (drop (i + 1) xs)))
      ∙ ap (λ (ys : List A). run n (F ys)) (sym (front xs i x within is))
      ∙ so_far

  -- nothing is left
  pub end : {A : Type 0} (F : List A → List X) → F [] ≡ [] → ((n : S) → run n [] ≡ n) → (n whole : S) (xs : List A) (i : ℕ) → length xs ≤ i → run n (F (drop i xs)) ≡ whole → n ≡ whole
  end {A} F nil none n whole xs i past so_far = sym (none n) ∙ ap (run n) (sym nil) ∙ ap (λ (ys : List A). run n (F ys)) (sym (empty (drop i xs) (simp length-drop (omega arith)))) ∙ so_far
    where
      empty : (ys : List A) → length ys ≡ 0 → ys ≡ []
      empty [] e = refl
      empty (y ∷ ys) e = absurd (omega (arith, e))
