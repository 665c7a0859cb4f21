-- Lines behind others, for numbers from 0 on.
use Rattle.std.proofs.Common.{◌≡◌, ℕ, ◌+◌, List, [], ◌∷◌, ◌++◌, map, flat_map, ap, sym, ◌∙◌, append_assoc, append-nil, arith}
use Rattle.std.specs.List.{range_with_len}
use Rattle.std.proofs.lemmas.Grind.{flat_map-append}
use Rattle.std.proofs.lemmas.List.{map-id, flat_map_more}
use Rattle.std.proofs.lemmas.List.FromFn.{map-range_with_len_more}
use Rattle.fab_language.specs.Words.{line}

range_more : (n : ℕ) → range_with_len 0 (n + 1) ≡ range_with_len 0 n ++ n ∷ []
range_more n =
    sym (map-id (range_with_len 0 (n + 1)))
    ∙ map-range_with_len_more (λ k. k) 0 n n (omega arith)
    ∙ ap (λ ks. ks ++ n ∷ []) (map-id (range_with_len 0 n))

-- the next number's line
pub line_more : (f : ℕ → List ℕ) (n : ℕ) (out before now : List ℕ) → before ≡ out ++ flat_map line (map f (range_with_len 0 n)) → now ≡ before ++ line (f n)
    → now ≡ out ++ flat_map line (map f (range_with_len 0 (n + 1)))
line_more f n out before now so_far put =
    put
    ∙ ap (λ z. z ++ line (f n)) so_far
    ∙ flat_map_more line out (map f (range_with_len 0 n)) (f n)
    ∙ ap (λ ls. out ++ flat_map line ls) (sym (map-range_with_len_more f 0 n n (omega arith)))

-- the next number's lines
pub lines_more : (f : ℕ → List (List ℕ)) (n : ℕ) (front : List (List ℕ)) (before now : List ℕ) → before ≡ flat_map line (front ++ flat_map f (range_with_len 0 n))
    → now ≡ before ++ flat_map line (f n) → now ≡ flat_map line (front ++ flat_map f (range_with_len 0 (n + 1)))
lines_more f n front before now so_far put =
    put
    ∙ ap (λ z. z ++ flat_map line (f n)) so_far
    ∙ sym (flat_map-append line (front ++ flat_map f (range_with_len 0 n)) (f n))
    ∙ ap (flat_map line) (flat_map_more f front (range_with_len 0 n) n)
    ∙ ap (λ ks. flat_map line (front ++ flat_map f ks)) (sym (range_more n))

-- one line, some, and one more
pub lines_between : (first last : List ℕ) (middle : List (List ℕ)) (out a b now : List ℕ) → a ≡ out ++ line first → b ≡ a ++ flat_map line middle
    → now ≡ b ++ line last → now ≡ out ++ flat_map line (first ∷ middle ++ last ∷ [])
lines_between first last middle out a b now opened put closed =
    closed
    ∙ ap (λ z. z ++ line last) (put ∙ ap (λ z. z ++ flat_map line middle) opened)
    ∙ ap (λ z. z ++ line last) (append_assoc out (line first) (flat_map line middle))
    ∙ append_assoc out (line first ++ flat_map line middle) (line last)
    ∙ ap (λ z. out ++ z) (append_assoc (line first) (flat_map line middle) (line last))
    ∙ ap (λ z. out ++ (line first ++ z)) (ap (λ z. flat_map line middle ++ z) (sym (append-nil (line last))) ∙ sym (flat_map-append line middle (last ∷ [])))

-- the last line
pub line_last : (last : List ℕ) (lines : List (List ℕ)) (before now : List ℕ) → before ≡ flat_map line lines → now ≡ before ++ line last
    → now ≡ flat_map line (lines ++ last ∷ [])
line_last last lines before now so_far closed = closed ∙ ap (λ z. z ++ line last) so_far ∙ flat_map_more line [] lines last
