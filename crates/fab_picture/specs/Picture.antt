-- The picture of a report: its shapes, in order.
use Rattle.std.specs.Prelude.{ℕ, ◌+◌, true, List, [], ◌∷◌, ◌++◌, codes, flat_map, length, take, Option, Some, None}
use Rattle.std.specs.Fmt.{decimal}
use Rattle.fab_tree.specs.declared.resolved.Principal.{Principal}
use Rattle.fab_tree.specs.declared.resolved.Resolved.{Resolved}
use Rattle.fab_reports.specs.declared.line.Line.{Line}
use Rattle.fab_picture.specs.declared.foot.Foot.{Foot}
use Rattle.fab_marks.specs.declared.shape.Shape.{Shape}
use Rattle.fab_marks.specs.declared.shape.Shape.TheVariants.{Caption, Head}
use Rattle.fab_marks.specs.declared.moves.Move.{Move}
use Rattle.fab_picture.specs.Ends.{feet, notes}
use Rattle.fab_marks.specs.Labels.{short}
use Rattle.fab_marks.specs.Lives.{is_up, lives}
use Rattle.fab_marks.specs.Marks.{marks}
use Rattle.fab_picture.specs.Moves.{before, moves, within}

-- how many lines on what came of a run are drawn
abbrev pub most_feet : ℕ
most_feet = 200

-- what is drawn, and what was left out
abbrev pub caption : ℕ → List Move → List Move → List Foot → List Foot → List ℕ
caption from drawn all feet_drawn all_feet =
    decimal (length drawn) ++ codes " of " ++ decimal (length all) ++ codes " events, from number " ++ decimal from ++ codes " on, and "
    ++ decimal (length feet_drawn) ++ codes " of " ++ decimal (length all_feet) ++ codes " lines of what came of them"

-- the head of a worker's or store's line
abbrev pub head_of : Principal → Option ℕ → List Shape
head_of x (Some n) = Head n x.role (short 24 x.name.text) x.name.text ∷ []
head_of x None = []

abbrev pub heads : List Principal → List Shape
heads = flat_map (λ x. head_of x x.node)

-- its line, from row 0 to the row behind the last event
abbrev pub life_of : List Move → List Move → Option ℕ → List Shape
life_of past drawn (Some n) = lives n (is_up n true past) 0 1 drawn
life_of past drawn None = []

abbrev pub all_lives : List Move → List Move → List Principal → List Shape
all_lives past drawn = flat_map (λ x. life_of past drawn x.node)

-- of all events: those in front of the window, and those in it; and all feet
abbrev pub shapes_of : Resolved → List (List ℕ) → ℕ → List Move → List Move → List Move → List Foot → List Shape
shapes_of r set from all past drawn all_feet =
    Caption (caption from drawn all (take most_feet all_feet) all_feet) ∷ []
    ++ heads r.nodes ++ all_lives past drawn r.nodes ++ marks r set past [] 1 drawn
    ++ notes (length drawn + 2) [] (take most_feet all_feet)

-- The picture of events `from` to `to` of a report with these lines, in which what is sent into a set of nodes stands out.
abbrev pub picture : Resolved → List (List ℕ) → ℕ → ℕ → List Line → List Shape
picture r set from to lines =
    shapes_of r set from (moves r lines) (before from (moves r lines)) (within from to (moves r lines)) (feet r lines)
