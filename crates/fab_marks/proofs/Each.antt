-- What each event's mark says, and in which row it stands.
use Rattle.std.proofs.Common.{◌≡◌, ℕ, suc, Bool, true, false, cond, List, [], ◌∷◌, ◌++◌, map, refl, ap, ◌∙◌}
use Rattle.std.specs.List.{filter}
use Rattle.fab_tree.specs.declared.resolved.Resolved.{Resolved}
use Rattle.fab_marks.specs.declared.shape.Sign.{Sign}
use Rattle.fab_marks.specs.declared.shape.Sign.TheVariants as s
use Rattle.fab_marks.specs.declared.moves.Move.{Move}
use Rattle.fab_marks.specs.Labels.{title_of}
use Rattle.fab_marks.specs.Marks.{mark_by, mark_of, marks, post_mark}
use Rattle.fab_marks.specs.Titled.{is_event, row_of, rows_from, title_in}

module _ (r : Resolved) (set : List (List ℕ)) (past : List Move) where
  post_title : (up : Bool) (row : ℕ) (x : Move) → title_in (post_mark r set up row x) ≡ title_of r x
  post_title true row x = refl
  post_title false row x = refl

  post_row : (up : Bool) (row : ℕ) (x : Move) → row_of (post_mark r set up row x) ≡ row
  post_row true row x = refl
  post_row false row x = refl

  post_is : (up : Bool) (row : ℕ) (x : Move) → is_event (post_mark r set up row x) ≡ true
  post_is true row x = refl
  post_is false row x = refl

  mark_title : (front : List Move) (row : ℕ) (x : Move) (sign : Sign) → title_in (mark_by r set past front row x sign) ≡ title_of r x
  mark_title front row x s.Deliver = refl
  mark_title front row x s.Post = post_title _ row x
  mark_title front row x s.Begin = refl
  mark_title front row x s.Resume = refl
  mark_title front row x s.Idle = refl
  mark_title front row x s.Crash = refl
  mark_title front row x s.Recover = refl

  mark_row : (front : List Move) (row : ℕ) (x : Move) (sign : Sign) → row_of (mark_by r set past front row x sign) ≡ row
  mark_row front row x s.Deliver = refl
  mark_row front row x s.Post = post_row _ row x
  mark_row front row x s.Begin = refl
  mark_row front row x s.Resume = refl
  mark_row front row x s.Idle = refl
  mark_row front row x s.Crash = refl
  mark_row front row x s.Recover = refl

  mark_is : (front : List Move) (row : ℕ) (x : Move) (sign : Sign) → is_event (mark_by r set past front row x sign) ≡ true
  mark_is front row x s.Deliver = refl
  mark_is front row x s.Post = post_is _ row x
  mark_is front row x s.Begin = refl
  mark_is front row x s.Resume = refl
  mark_is front row x s.Idle = refl
  mark_is front row x s.Crash = refl
  mark_is front row x s.Recover = refl

  -- their titles are the events' lines, in order
  pub titles : (front : List Move) (row : ℕ) (xs : List Move) → map title_in (marks r set past front row xs) ≡ map (title_of r) xs
  titles front row [] = refl
  titles front row (x ∷ xs) =
      ap (λ t. t ∷ map title_in (marks r set past (front ++ x ∷ []) (suc row) xs)) (mark_title front row x x.sign)
      ∙ ap (λ ts. title_of r x ∷ ts) (titles (front ++ x ∷ []) (suc row) xs)

  -- their rows are one below the other
  pub rows : (front : List Move) (row : ℕ) (xs : List Move) → map row_of (marks r set past front row xs) ≡ rows_from row xs
  rows front row [] = refl
  rows front row (x ∷ xs) =
      ap (λ n. n ∷ map row_of (marks r set past (front ++ x ∷ []) (suc row) xs)) (mark_row front row x x.sign)
      ∙ ap (λ ns. row ∷ ns) (rows (front ++ x ∷ []) (suc row) xs)

  -- and each is that of an event
  pub all_events : (front : List Move) (row : ℕ) (xs : List Move) → filter is_event (marks r set past front row xs) ≡ marks r set past front row xs
  all_events front row [] = refl
  all_events front row (x ∷ xs) =
      let others = filter is_event (marks r set past (front ++ x ∷ []) (suc row) xs) in
      ap (λ b. cond b (mark_of r set past front row x ∷ others) others) (mark_is front row x x.sign)
      ∙ ap (λ ms. mark_of r set past front row x ∷ ms) (all_events (front ++ x ∷ []) (suc row) xs)
