-- The signs and arrows of a picture are printed in lines of their own, the last first.
use Rattle.std.proofs.Common.{◌≡◌, ℕ, true, false, List, [], ◌∷◌, ◌++◌, reverse, refl, sym, ap, ◌∙◌, append-nil}
use Rattle.std.specs.List.{filter, flat_map}
use Rattle.std.proofs.lemmas.Bool.{false≢true}
use Rattle.std.proofs.lemmas.Grind.{flat_map-append}
use Rattle.std.proofs.lemmas.List.{reverse-append}
use Rattle.fab_marks.specs.declared.shape.Shape.{Shape}
use Rattle.fab_marks.specs.declared.shape.Shape.TheVariants.{Caption, Head, Life, Mark, Arrow, Note}
use Rattle.fab_marks.specs.Titled.{is_event}
use Rattle.fab_svg.specs.Svg.{IsLine, arrow_text, event_text, events_text, ground_text, mark_text}

pub a_line : (x : Shape) → is_event x ≡ true → IsLine (event_text x)
a_line (Caption text) e = absurd (false≢true e)
a_line (Head column r label whole) e = absurd (false≢true e)
a_line (Life column from to up) e = absurd (false≢true e)
a_line (Mark at sign label whole) e = (mark_text at sign label whole, refl)
a_line (Arrow from to lost stands_out label whole) e = (arrow_text from to lost stands_out label whole, refl)
a_line (Note at label whole) e = absurd (false≢true e)

pub nothing_else : (x : Shape) → is_event x ≡ true → ground_text x ≡ []
nothing_else (Caption text) e = absurd (false≢true e)
nothing_else (Head column r label whole) e = absurd (false≢true e)
nothing_else (Life column from to up) e = absurd (false≢true e)
nothing_else (Mark at sign label whole) e = refl
nothing_else (Arrow from to lost stands_out label whole) e = refl
nothing_else (Note at label whole) e = absurd (false≢true e)

pub no_part : (x : Shape) → is_event x ≡ false → event_text x ≡ []
no_part (Caption text) e = refl
no_part (Head column r label whole) e = refl
no_part (Life column from to up) e = refl
no_part (Mark at sign label whole) e = absurd (false≢true (sym e))
no_part (Arrow from to lost stands_out label whole) e = absurd (false≢true (sym e))
no_part (Note at label whole) e = refl

abbrev printed : List Shape → List ℕ
printed xs = flat_map event_text (reverse xs)

one_more : (x : Shape) (ys : List Shape) (before : List ℕ) → before ≡ printed ys → before ++ event_text x ≡ printed (x ∷ ys)
one_more x ys before e =
    ap (λ (l : List ℕ). l ++ event_text x) e
    ∙ ap (λ (l : List ℕ). printed ys ++ l) (sym (append-nil (event_text x)))
    ∙ sym (flat_map-append event_text (reverse ys) (x ∷ []))
    ∙ ap (flat_map event_text) (sym (reverse-append (x ∷ []) ys))

pub in_order : (xs : List Shape) → events_text xs ≡ printed (filter is_event xs)
in_order [] = refl
in_order (Caption text ∷ xs) = append-nil (events_text xs) ∙ in_order xs
in_order (Head column r label whole ∷ xs) = append-nil (events_text xs) ∙ in_order xs
in_order (Life column from to up ∷ xs) = append-nil (events_text xs) ∙ in_order xs
in_order (Mark at sign label whole ∷ xs) = one_more (Mark at sign label whole) (filter is_event xs) (events_text xs) (in_order xs)
in_order (Arrow from to lost stands_out label whole ∷ xs) = one_more (Arrow from to lost stands_out label whole) (filter is_event xs) (events_text xs) (in_order xs)
in_order (Note at label whole ∷ xs) = append-nil (events_text xs) ∙ in_order xs
