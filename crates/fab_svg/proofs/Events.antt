-- Events from the last one on.
use Rattle.std.proofs.Common.{◌≡◌, ℕ, List, [], ◌∷◌, ◌++◌, ap, sym, ◌∙◌, append_assoc, append-nil}
use Rattle.fab_marks.specs.declared.shape.Shape.{Shape}
use Rattle.fab_svg.specs.Svg.{event_text, events_text}

pub last_first : (front : List Shape) (x : Shape) → events_text (front ++ x ∷ []) ≡ event_text x ++ events_text front
last_first [] x = sym (append-nil (event_text x))
last_first (y ∷ front) x = ap (λ l. l ++ event_text y) (last_first front x) ∙ append_assoc (event_text x) (events_text front) (event_text y)

-- one more is written, and the others are left
pub one_more : (old new out : List ℕ) (shapes rest front : List Shape) (x : Shape) → rest ≡ front ++ x ∷ [] → new ≡ out ++ event_text x
    → out ++ events_text rest ≡ old ++ events_text shapes → new ++ events_text front ≡ old ++ events_text shapes
one_more old new out shapes rest front x e f h =
    ap (λ l. l ++ events_text front) f ∙ append_assoc out (event_text x) (events_text front)
    ∙ ap (λ l. out ++ l) (sym (last_first front x) ∙ ap events_text (sym e)) ∙ h
