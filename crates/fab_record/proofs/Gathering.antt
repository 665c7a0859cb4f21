-- What is gathered behind a list, part by part.
use Rattle.std.proofs.Common.{◌≡◌, ℕ, ◌+◌, ◌<◌, ◌≤◌, List, [], ◌∷◌, ◌++◌, drop, length, get_or, refl, sym, ap, ◌∙◌, append_assoc, length-drop, arith}
use Rattle.std.specs.List.{flat_map}
use Rattle.fab_authority.proofs.Walks.{front}

-- two parts
pub two : {X : Type 0} (n m k xs ys zs : List X) → zs ≡ xs ++ ys → m ≡ n ++ xs → k ≡ m ++ ys → k ≡ n ++ zs
two n m k xs ys zs is first second = second ∙ ap (λ (out : List _). out ++ ys) first ∙ append_assoc n xs ys ∙ ap (λ (out : List _). n ++ out) (sym is)

-- one element more of a list, of which the rest is still to come
pub step : {A X : Type 0} (f : A → List X) (n m whole : List X) (xs : List A) (i : ℕ) (x : A) → i < length xs → x ≡ get_or xs i x → m ≡ n ++ f x
    → n ++ flat_map f (drop i xs) ≡ whole → m ++ flat_map f (drop (i + 1) xs) ≡ whole
step {A} {X} f n m whole xs i x within is next so_far =
    two n m (m ++ flat_map f (drop (i + 1) xs)) (f x) (flat_map f (drop (i + 1) xs)) (flat_map f (drop i xs)) (ap (flat_map f) (front xs i x within is)) next refl ∙ so_far

-- nothing is left
pub past_end : {A : Type 0} (xs : List A) (i : ℕ) → length xs ≤ i → drop i xs ≡ []
past_end {A} xs i past = empty (drop i xs) (simp length-drop (omega arith))
  where
    empty : (ys : List A) → length ys ≡ 0 → ys ≡ []
    empty [] e = refl
    empty (y ∷ ys) e = absurd (omega (arith, e))
