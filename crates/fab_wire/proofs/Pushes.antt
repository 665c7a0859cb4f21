-- Bytes written at the end one after the other.
use Rattle.std.proofs.Common.{◌≡◌, ℕ, ◌+◌, ◌<◌, List, [], ◌∷◌, ◌++◌, length, get_or, take, sym, ap, subst, ◌∙◌, append_assoc}
use Rattle.std.specs.List.{All, flat_map}
use Rattle.std.proofs.lemmas.List.{take_more, flat_map_more}
use Rattle.std.proofs.lemmas.List.Elements.{All-more}

pub pushed : (old s t : List ℕ) {mid new : List ℕ} → mid ≡ old ++ s → new ≡ mid ++ t → new ≡ old ++ (s ++ t)
pushed old s t p q = q ∙ ap (λ (x : List ℕ). x ++ t) p ∙ append_assoc old s t

-- one more item of a list
pub more_bytes : {X : Type 0} (f : X → List ℕ) (out : List ℕ) (xs : List X) (i : ℕ) (d x : X) {mid new : List ℕ} → i < length xs → x ≡ get_or xs i d
    → mid ≡ out ++ flat_map f (take i xs) → new ≡ mid ++ f x → new ≡ out ++ flat_map f (take (i + 1) xs)
more_bytes {X = X} f out xs i d x lt is p q =
    let e : take (i + 1) xs ≡ take i xs ++ x ∷ [] = take_more xs i d lt ∙ ap (λ (y : X). take i xs ++ y ∷ []) (sym is) in
    q ∙ ap (λ (t : List ℕ). t ++ f x) p ∙ flat_map_more f out (take i xs) x ∙ ap (λ (ys : List X). out ++ flat_map f ys) (sym e)

pub more_fits : {X : Type 0} (P : X → Type 0) (xs : List X) (i : ℕ) (d x : X) → i < length xs → x ≡ get_or xs i d → All P (take i xs) → P x → All P (take (i + 1) xs)
more_fits P xs i d x lt is h k = All-more P xs i d lt h (subst P is k)
