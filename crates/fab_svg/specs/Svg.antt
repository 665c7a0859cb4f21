-- The text of a picture, in SVG.
use Rattle.std.specs.Prelude.{◌≡◌, ℕ, ◌+◌, ◌*◌, max, nat_lt, Bool, true, false, List, [], ◌∷◌, ◌++◌, codes, flat_map}
use Rattle.std.specs.Fmt.{decimal}
use Rattle.fab_tree.specs.declared.declaration.Role.{Role}
use Rattle.fab_tree.specs.declared.declaration.Role.TheVariants as role
use Rattle.fab_language.specs.Words.{line}
use Rattle.fab_marks.specs.declared.shape.Sign.{Sign}
use Rattle.fab_marks.specs.declared.shape.Sign.TheVariants as s
use Rattle.fab_marks.specs.declared.shape.Spot.{Spot}
use Rattle.fab_marks.specs.declared.shape.Shape.{Shape}
use Rattle.fab_marks.specs.declared.shape.Shape.TheVariants.{Caption, Head, Life, Mark, Arrow, Note}
use Rattle.fab_svg.specs.Escaped.{escaped}

-- where a column and a row are, in pixels
abbrev pub across : ℕ → ℕ
across column = 240 + 230 * column

abbrev pub down : ℕ → ℕ
down row = 75 + 20 * row

-- what is written at a place stands on both sides of a node's line, and above its row, so that no arrow that begins there runs through it
abbrev pub before : ℕ → ℕ
before column = 230 + 230 * column

abbrev pub behind : ℕ → ℕ
behind column = 250 + 230 * column

abbrev pub above : ℕ → ℕ
above row = 70 + 20 * row

-- ---- elements

abbrev pub title : List ℕ → List ℕ
title text = codes "<title>" ++ escaped text ++ codes "</title>"

-- an attribute, and one whose value is a number
abbrev pub attribute : List ℕ → List ℕ → List ℕ
attribute name value = codes " " ++ name ++ codes "='" ++ value ++ codes "'"

abbrev pub number_attribute : List ℕ → ℕ → List ℕ
number_attribute name n = attribute name (decimal n)

-- a text of a class at a place
abbrev pub text_at : List ℕ → ℕ → ℕ → List ℕ → List ℕ
text_at class x y text =
    codes "<text" ++ attribute (codes "class") class ++ number_attribute (codes "x") x ++ number_attribute (codes "y") y
    ++ codes ">" ++ escaped text ++ codes "</text>"

abbrev pub line_at : List ℕ → ℕ → ℕ → ℕ → ℕ → List ℕ
line_at class x y to_x to_y =
    codes "<line" ++ attribute (codes "class") class ++ number_attribute (codes "x1") x ++ number_attribute (codes "y1") y
    ++ number_attribute (codes "x2") to_x ++ number_attribute (codes "y2") to_y ++ codes "/>"

-- a path from a place on
abbrev pub path_start : ℕ → ℕ → List ℕ
path_start x y = codes " d='M" ++ decimal x ++ codes "," ++ decimal y

abbrev pub path_at : List ℕ → ℕ → ℕ → List ℕ → List ℕ
path_at class x y path = codes "<path" ++ attribute (codes "class") class ++ path_start x y ++ path ++ codes "'/>"

-- ---- shapes

abbrev pub role_text : Role → List ℕ
role_text role.Principal = codes "principal"
role_text (role.Worker false) = codes "worker"
role_text (role.Worker true) = codes "hostile worker"
role_text (role.Store false) = codes "store"
role_text (role.Store true) = codes "hostile store"

-- hostile ones are marked
abbrev pub box_class : Role → List ℕ
box_class role.Principal = codes "box"
box_class (role.Worker false) = codes "box"
box_class (role.Worker true) = codes "box hostile"
box_class (role.Store false) = codes "box"
box_class (role.Store true) = codes "box hostile"

abbrev pub head_text : ℕ → Role → List ℕ → List ℕ → List ℕ
head_text column r label name =
    codes "<g>" ++ title name ++ path_at (box_class r) (135 + 230 * column) 35 (codes "h210v36h-210z")
    ++ text_at (codes "middle") (across column) 49 (role_text r) ++ text_at (codes "middle name") (across column) 64 label ++ codes "</g>"

abbrev pub life_class : Bool → List ℕ
life_class true = codes "up"
life_class false = codes "down"

abbrev pub sign_class : Sign → List ℕ
sign_class s.Begin = codes "full"
sign_class s.Resume = codes "empty"
sign_class s.Deliver = codes "full"
sign_class s.Post = codes "full"
sign_class s.Idle = codes "empty"
sign_class s.Crash = codes "cross"
sign_class s.Recover = codes "empty"

-- a disc, a circle, a full and an empty square, a cross and a triangle
abbrev pub sign_path : Sign → List ℕ
sign_path s.Begin = codes "m-5 0a5 5 0 1 0 10 0a5 5 0 1 0-10 0"
sign_path s.Resume = codes "m-4 0a4 4 0 1 0 8 0a4 4 0 1 0-8 0"
sign_path s.Deliver = codes "m-3 0h6"
sign_path s.Post = codes "m-5-5h10v10h-10z"
sign_path s.Idle = codes "m-5-5h10v10h-10z"
sign_path s.Crash = codes "m-7-7l14 14m0-14l-14 14"
sign_path s.Recover = codes "m0-7l6 12h-12z"

abbrev pub mark_text : Spot → Sign → List ℕ → List ℕ → List ℕ
mark_text at sign label whole =
    codes "<g>" ++ title whole ++ path_at (sign_class sign) (across at.column) (down at.row) (sign_path sign)
    ++ text_at (codes "start") (behind at.column) (above at.row) label ++ codes "</g>"

abbrev pub arrow_class : Bool → List ℕ
arrow_class true = codes "lost"
arrow_class false = codes "arrow"

-- where a message is lost there is a cross in place of the arrow's head
abbrev pub end_text : Bool → Spot → List ℕ
end_text true to = path_at (codes "cross") (across to.column) (down to.row) (sign_path s.Crash)
end_text false to = []

-- the label stands beyond the receiver's line, away from the arrow
abbrev pub beyond : Bool → Spot → List ℕ → List ℕ
beyond true to label = text_at (codes "start") (behind to.column) (above to.row) label
beyond false to label = text_at (codes "end") (before to.column) (above to.row) label

abbrev pub group_text : Bool → List ℕ
group_text true = codes "<g class='out'>"
group_text false = codes "<g>"

abbrev pub arrow_text : Spot → Spot → Bool → Bool → List ℕ → List ℕ → List ℕ
arrow_text from to lost stands_out label whole =
    group_text stands_out ++ title whole
    ++ line_at (arrow_class lost) (across from.column) (down from.row) (across to.column) (down to.row)
    ++ end_text lost to ++ beyond (nat_lt from.column to.column) to label ++ codes "</g>"

abbrev pub note_text : Spot → List ℕ → List ℕ → List ℕ
note_text at label whole = codes "<g>" ++ title whole ++ text_at (codes "middle") (across at.column) (above at.row) label ++ codes "</g>"

-- nodes and what stands at their feet, without events
abbrev pub ground_text : Shape → List ℕ
ground_text (Caption text) = line (text_at (codes "start") 20 20 text)
ground_text (Head column r label whole) = line (head_text column r label whole)
ground_text (Life column from to up) = line (line_at (life_class up) (across column) (down from) (across column) (down to))
ground_text (Mark at sign label whole) = []
ground_text (Arrow from to lost stands_out label whole) = []
ground_text (Note at label whole) = line (note_text at label whole)

-- the mark of an event
abbrev pub event_text : Shape → List ℕ
event_text (Caption text) = []
event_text (Head column r label whole) = []
event_text (Life column from to up) = []
event_text (Mark at sign label whole) = line (mark_text at sign label whole)
event_text (Arrow from to lost stands_out label whole) = line (arrow_text from to lost stands_out label whole)
event_text (Note at label whole) = []

-- The last event is drawn first, so that an arrow, which begins above its end, runs below what is written there.
abbrev pub events_text : List Shape → List ℕ
events_text [] = []
events_text (x ∷ xs) = events_text xs ++ event_text x

-- this is a text with a line end behind it
abbrev pub IsLine : List ℕ → Type 0
IsLine bytes = (text : List ℕ) × (bytes ≡ line text)

-- ---- the whole

-- the last column and row in which something stands
abbrev pub column_of : Shape → ℕ
column_of (Caption text) = 0
column_of (Head column r label whole) = column
column_of (Life column from to up) = column
column_of (Mark at sign label whole) = at.column
column_of (Arrow from to lost stands_out label whole) = to.column
column_of (Note at label whole) = at.column

abbrev pub row_of : Shape → ℕ
row_of (Caption text) = 0
row_of (Head column r label whole) = 0
row_of (Life column from to up) = to
row_of (Mark at sign label whole) = at.row
row_of (Arrow from to lost stands_out label whole) = to.row
row_of (Note at label whole) = at.row

abbrev pub last_column : ℕ → List Shape → ℕ
last_column most [] = most
last_column most (x ∷ xs) = last_column (max most (column_of x)) xs

abbrev pub last_row : ℕ → List Shape → ℕ
last_row most [] = most
last_row most (x ∷ xs) = last_row (max most (row_of x)) xs

abbrev pub opening : ℕ → ℕ → List ℕ
opening width height =
    line (codes "<svg xmlns='http://www.w3.org/2000/svg'" ++ number_attribute (codes "width") width ++ number_attribute (codes "height") height ++ codes ">")

-- black on white: lines of nodes that are down are dotted, arrows that are lost dashed, what stands out is thick, and text has a white edge
abbrev pub style : List (List ℕ)
style =
    codes "<style>"
    ∷ codes "text { font: 11px monospace; paint-order: stroke; stroke: white; stroke-width: 8px; stroke-linejoin: round; }"
    ∷ codes ".start { text-anchor: start; } .middle { text-anchor: middle; } .end { text-anchor: end; } .name { font-weight: bold; font-size: 12px; }"
    ∷ codes "line, path { stroke: black; fill: none; } .box { fill: white; } .hostile { stroke-width: 3px; stroke-dasharray: 8 3; }"
    ∷ codes ".full { fill: black; } .empty { fill: white; } .cross { stroke-width: 2px; } .down { stroke-dasharray: 1 5; stroke-width: 2px; }"
    ∷ codes ".arrow { marker-end: url(#head); } .lost { stroke-dasharray: 5 4; }"
    ∷ codes ".out line { stroke-width: 3px; } .out text { font-weight: bold; }"
    ∷ codes "</style>"
    ∷ codes "<marker id='head' viewBox='0 0 10 10' refX='10' refY='5' markerUnits='userSpaceOnUse' markerWidth='11' markerHeight='11' orient='auto'>"
    ∷ codes "<path class='full' d='M0 1L10 5L0 9z'/></marker>"
    ∷ codes "<rect width='100%' height='100%' fill='white'/>"
    ∷ []

abbrev pub svg : List Shape → List ℕ
svg shapes =
    opening (480 + 230 * last_column 0 shapes) (95 + 20 * last_row 0 shapes) ++ flat_map line style
    ++ flat_map ground_text shapes ++ events_text shapes ++ line (codes "</svg>")
