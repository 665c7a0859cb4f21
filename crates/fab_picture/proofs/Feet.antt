-- Notes so far and those to come.
use Rattle.std.proofs.Common.{◌≡◌, ◌<◌, ℕ, ◌+◌, List, [], ◌∷◌, ◌++◌, length, take, drop, get_or, sym, ap, ◌∙◌, append_assoc}
use Rattle.std.proofs.lemmas.List.{drop_more, take_more}
use Rattle.fab_marks.specs.declared.shape.Shape.{Shape}
use Rattle.fab_picture.specs.declared.foot.Foot.{Foot}
use Rattle.fab_picture.specs.Ends.{note_at, notes}

one_on : (row : ℕ) (front rest : List Foot) (x : Foot) (shape : Shape) (out more : List Shape)
    → shape ≡ note_at row front x → more ≡ out ++ shape ∷ []
    → more ++ notes row (front ++ x ∷ []) rest ≡ out ++ notes row front (x ∷ rest)
one_on row front rest x shape out more is put =
    ap (λ l. l ++ notes row (front ++ x ∷ []) rest) put
    ∙ append_assoc out (shape ∷ []) (notes row (front ++ x ∷ []) rest)
    ∙ ap (λ s. out ++ s ∷ notes row (front ++ x ∷ []) rest) is

-- behind the note at i
pub notes_on : (row : ℕ) (xs : List Foot) (i : ℕ) (x : Foot) (shape : Shape) (first out more : List Shape)
    → i < length xs → x ≡ get_or xs i x → shape ≡ note_at row (take i xs) x → more ≡ out ++ shape ∷ []
    → out ++ notes row (take i xs) (drop i xs) ≡ first ++ notes row [] xs
    → more ++ notes row (take (i + 1) xs) (drop (i + 1) xs) ≡ first ++ notes row [] xs
notes_on row xs i x shape first out more below at is put so_far =
    let taken : take (i + 1) xs ≡ take i xs ++ x ∷ [] = take_more xs i x below ∙ ap (λ y. take i xs ++ y ∷ []) (sym at) in
    let left : drop i xs ≡ x ∷ drop (i + 1) xs = drop_more xs i x below ∙ ap (λ y. y ∷ drop (i + 1) xs) (sym at) in
    ap (λ l. more ++ notes row l (drop (i + 1) xs)) taken
    ∙ one_on row (take i xs) (drop (i + 1) xs) x shape out more is put
    ∙ ap (λ l. out ++ notes row (take i xs) l) (sym left)
    ∙ so_far
