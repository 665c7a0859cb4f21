-- One shape for each event.
use Rattle.std.specs.Prelude.{ℕ, suc, Bool, true, false, List, [], ◌∷◌, ◌++◌, is_some, if◌then◌else◌}
use Rattle.fab_tree.specs.declared.resolved.Resolved.{Resolved}
use Rattle.fab_marks.specs.declared.shape.Sign.{Sign}
use Rattle.fab_marks.specs.declared.shape.Sign.TheVariants as s
use Rattle.fab_marks.specs.declared.shape.Shape.{Shape}
use Rattle.fab_marks.specs.declared.shape.Shape.TheVariants.{Arrow, Mark}
use Rattle.fab_marks.specs.declared.moves.Move.{Move}
use Rattle.fab_marks.specs.Nodes.{is_sent_in}
use Rattle.fab_marks.specs.Labels.{label_of, title_of}
use Rattle.fab_marks.specs.Origins.{origin}
use Rattle.fab_marks.specs.Lives.{is_up}

-- what is cut is a crash
abbrev pub shown_sign : Move → Sign
shown_sign x = if is_some x.cut then s.Crash else x.sign

-- a sign on its node's line
abbrev pub sign_mark : Resolved → ℕ → Move → Shape
sign_mark r row x = Mark (record { column = x.node; row = row }) (shown_sign x) (label_of r x) (title_of r x)

-- an arrow from its sender, where the message was sent, to its receiver; where the event is cut the message is lost
abbrev pub delivery_mark : Resolved → List (List ℕ) → List Move → ℕ → Move → Shape
delivery_mark r set front row x =
    Arrow (record { column = x.other; row = origin front row x }) (record { column = x.node; row = row })
    (is_some x.cut) (is_sent_in r set x.other x.node) (label_of r x) (title_of r x)

-- what is posted to a node that is down is lost at once
abbrev pub post_mark : Resolved → List (List ℕ) → Bool → ℕ → Move → Shape
post_mark r set true row x = sign_mark r row x
post_mark r set false row x =
    Arrow (record { column = x.node; row = row }) (record { column = x.other; row = row })
    true (is_sent_in r set x.node x.other) (label_of r x) (title_of r x)

-- Behind the events before the window and those of the window in front of it.
abbrev pub mark_by : Resolved → List (List ℕ) → List Move → List Move → ℕ → Move → Sign → Shape
mark_by r set past front row x s.Deliver = delivery_mark r set front row x
mark_by r set past front row x s.Post = post_mark r set (is_up x.other (is_up x.other true past) front) row x
mark_by r set past front row x _ = sign_mark r row x

abbrev pub mark_of : Resolved → List (List ℕ) → List Move → List Move → ℕ → Move → Shape
mark_of r set past front row x = mark_by r set past front row x x.sign

-- Each event of the window has one mark, in order, in a row of its own.
abbrev pub marks : Resolved → List (List ℕ) → List Move → List Move → ℕ → List Move → List Shape
marks r set past front row [] = []
marks r set past front row (x ∷ xs) = mark_of r set past front row x ∷ marks r set past (front ++ x ∷ []) (suc row) xs
