-- Which shapes are the marks of events, the title of a shape, and the row in which it stands.
use Rattle.std.specs.Prelude.{ℕ, suc, Bool, true, false, List, [], ◌∷◌}
use Rattle.fab_marks.specs.declared.shape.Shape.{Shape}
use Rattle.fab_marks.specs.declared.shape.Shape.TheVariants as s
use Rattle.fab_marks.specs.declared.moves.Move.{Move}

-- whether it is the mark of an event
abbrev pub is_event : Shape → Bool
is_event (s.Mark at sign label title) = true
is_event (s.Arrow from to lost stands_out label title) = true
is_event _ = false

abbrev pub title_in : Shape → List ℕ
title_in (s.Caption text) = text
title_in (s.Head column role label title) = title
title_in (s.Life column from to up) = []
title_in (s.Mark at sign label title) = title
title_in (s.Arrow from to lost stands_out label title) = title
title_in (s.Note at label title) = title

-- an arrow stands in the row in which it comes
abbrev pub row_of : Shape → ℕ
row_of (s.Caption text) = 0
row_of (s.Head column role label title) = 0
row_of (s.Life column from to up) = from
row_of (s.Mark at sign label title) = at.row
row_of (s.Arrow from to lost stands_out label title) = to.row
row_of (s.Note at label title) = at.row

-- a row for each event, one below the other
abbrev pub rows_from : ℕ → List Move → List ℕ
rows_from row [] = []
rows_from row (x ∷ xs) = row ∷ rows_from (suc row) xs
