-- Which shapes of a picture are those of events.
use Rattle.std.proofs.Common.{◌≡◌, ℕ, suc, ◌+◌, Bool, true, false, cond, not, List, [], ◌∷◌, ◌++◌, length, take, map, Option, Some, None, refl, ap, ◌∙◌}
use Rattle.std.specs.List.{filter}
use Rattle.std.proofs.lemmas.List.{append-nil}
use Rattle.std.proofs.lemmas.List.Elements.{filter-append}
use Rattle.fab_tree.specs.declared.resolved.Principal.{Principal}
use Rattle.fab_tree.specs.declared.resolved.Resolved.{Resolved}
use Rattle.fab_reports.specs.declared.line.Line.{Line}
use Rattle.fab_marks.specs.declared.shape.Shape.{Shape}
use Rattle.fab_marks.specs.declared.shape.Shape.TheVariants.{Caption, Life}
use Rattle.fab_marks.specs.declared.moves.Move.{Move}
use Rattle.fab_marks.specs.Labels.{title_of}
use Rattle.fab_marks.specs.Lives.{is_up, lives, same, up_behind}
use Rattle.fab_marks.specs.Marks.{marks}
use Rattle.fab_marks.specs.Titled.{is_event, row_of, rows_from, title_in}
use Rattle.fab_marks.proofs.Each.{all_events, rows, titles}
use Rattle.fab_picture.specs.declared.foot.Foot.{Foot}
use Rattle.fab_picture.specs.Ends.{feet, notes}
use Rattle.fab_picture.specs.Moves.{before, moves, within}
use Rattle.fab_picture.specs.Picture.{all_lives, caption, head_of, heads, life_of, most_feet, picture, shapes_of}

abbrev events_of : List Shape → List Shape
events_of = filter is_event

-- lists without an event, one after the other
none_in : (xs ys : List Shape) → events_of xs ≡ [] → events_of ys ≡ [] → events_of (xs ++ ys) ≡ []
none_in xs ys ahead after = filter-append is_event xs ys ∙ ap (λ l. l ++ events_of ys) ahead ∙ after

no_head : (x : Principal) (n : Option ℕ) → events_of (head_of x n) ≡ []
no_head x (Some n) = refl
no_head x None = refl

no_heads : (xs : List Principal) → events_of (heads xs) ≡ []
no_heads [] = refl
no_heads (x ∷ xs) = none_in (head_of x x.node) (heads xs) (no_head x x.node) (no_heads xs)

no_part : (b : Bool) (n start row : ℕ) (up : Bool) (one other : List Shape) → events_of one ≡ [] → events_of other ≡ []
    → events_of (cond b one (Life n start row up ∷ other)) ≡ []
no_part true n start row up one other ahead after = ahead
no_part false n start row up one other ahead after = after

no_life : (n : ℕ) (up : Bool) (start row : ℕ) (xs : List Move) → events_of (lives n up start row xs) ≡ []
no_life n up start row [] = refl
no_life n up start row (x ∷ xs) =
    no_part (same (up_behind n up x) up) n start row up (lives n up start (suc row) xs) (lives n (not up) row (suc row) xs)
    (no_life n up start (suc row) xs) (no_life n (not up) row (suc row) xs)

no_life_of : (past drawn : List Move) (n : Option ℕ) → events_of (life_of past drawn n) ≡ []
no_life_of past drawn (Some n) = no_life n (is_up n true past) 0 1 drawn
no_life_of past drawn None = refl

no_lives : (past drawn : List Move) (xs : List Principal) → events_of (all_lives past drawn xs) ≡ []
no_lives past drawn [] = refl
no_lives past drawn (x ∷ xs) = none_in (life_of past drawn x.node) (all_lives past drawn xs) (no_life_of past drawn x.node) (no_lives past drawn xs)

no_notes : (first : ℕ) (front xs : List Foot) → events_of (notes first front xs) ≡ []
no_notes first front [] = refl
no_notes first front (x ∷ xs) = no_notes first (front ++ x ∷ []) xs

-- what stands in front of the marks and behind them is none
between : (front marked behind : List Shape) → events_of front ≡ [] → events_of marked ≡ marked → events_of behind ≡ []
    → events_of (front ++ marked ++ behind) ≡ marked
between front marked behind ahead all after =
    filter-append is_event (front ++ marked) behind
    ∙ ap (λ l. l ++ events_of behind) (filter-append is_event front marked)
    ∙ ap (λ l. l ++ events_of marked ++ events_of behind) ahead
    ∙ ap (λ l. l ++ events_of behind) all
    ∙ ap (λ l. marked ++ l) after
    ∙ append-nil marked

in_shapes : (r : Resolved) (set : List (List ℕ)) (from : ℕ) (all past drawn : List Move) (ends : List Foot)
    → events_of (shapes_of r set from all past drawn ends) ≡ marks r set past [] 1 drawn
in_shapes r set from all past drawn ends =
    let first = Caption (caption from drawn all (take most_feet ends) ends) ∷ [] in
    between (first ++ heads r.nodes ++ all_lives past drawn r.nodes) (marks r set past [] 1 drawn) (notes (length drawn + 2) [] (take most_feet ends))
    (none_in (first ++ heads r.nodes) (all_lives past drawn r.nodes) (none_in first (heads r.nodes) refl (no_heads r.nodes)) (no_lives past drawn r.nodes))
    (all_events r set past [] 1 drawn)
    (no_notes (length drawn + 2) [] (take most_feet ends))

module _ (r : Resolved) (set : List (List ℕ)) (from to : ℕ) (lines : List Line) where
  pub its_marks : events_of (picture r set from to lines) ≡ marks r set (before from (moves r lines)) [] 1 (within from to (moves r lines))
  its_marks = in_shapes r set from (moves r lines) (before from (moves r lines)) (within from to (moves r lines)) (feet r lines)

  pub its_titles : map title_in (events_of (picture r set from to lines)) ≡ map (title_of r) (within from to (moves r lines))
  its_titles = ap (λ l. map title_in l) its_marks ∙ titles r set (before from (moves r lines)) [] 1 (within from to (moves r lines))

  pub its_rows : map row_of (events_of (picture r set from to lines)) ≡ rows_from 1 (within from to (moves r lines))
  its_rows = ap (λ l. map row_of l) its_marks ∙ rows r set (before from (moves r lines)) [] 1 (within from to (moves r lines))
