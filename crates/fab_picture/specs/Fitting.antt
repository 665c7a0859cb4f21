-- Which lines of a report fit a bundle, and where a line stands.
use Rattle.std.specs.Prelude.{ℕ, zero, suc, ◌&&◌, ◌==◌, Bool, true, List, [], ◌∷◌, Option, Some, None, if◌then◌else◌}
use Rattle.fab_tree.specs.declared.resolved.Resolved.{Resolved}
use Rattle.fab_reports.specs.declared.line.ShownInner.{ShownInner}
use Rattle.fab_reports.specs.declared.line.ShownInner.TheVariants as i
use Rattle.fab_reports.specs.declared.line.ShownEvent.{ShownEvent}
use Rattle.fab_reports.specs.declared.line.ShownEvent.TheVariants as e
use Rattle.fab_reports.specs.declared.line.ShownEnding.{ShownEnding}
use Rattle.fab_reports.specs.declared.line.ShownEnding.TheVariants as o
use Rattle.fab_reports.specs.declared.line.Line.{Line}
use Rattle.fab_reports.specs.declared.line.Line.TheVariants as l
use Rattle.fab_marks.specs.Nodes.{is_node}

-- each name of a node in it is a node's
abbrev pub inner_fits : Resolved → ShownInner → Bool
inner_fits r (i.Begin worker) = is_node r worker
inner_fits r (i.Resume worker) = is_node r worker
inner_fits r (i.Deliver sender receiver bytes) = is_node r sender && is_node r receiver
inner_fits r (i.Idle worker node) = is_node r worker && is_node r node
inner_fits r (i.Recover node) = is_node r node

abbrev pub event_fits : Resolved → ShownEvent → Bool
event_fits r (e.Inner event) = inner_fits r event
event_fits r (e.Post sender receiver bytes) = is_node r sender && is_node r receiver
event_fits r (e.Crash node) = is_node r node
event_fits r (e.CrashIn keep event) = inner_fits r event

abbrev pub ending_fits : Resolved → ShownEnding → Bool
ending_fits r (o.Committed attempt result) = true
ending_fits r o.Failed = true
ending_fits r o.Conflict = true
ending_fits r (o.Silent node) = is_node r node
ending_fits r (o.Denied node denial) = is_node r node
ending_fits r (o.Stopped stop) = true
ending_fits r o.NodeDown = true
ending_fits r o.Unfinished = true

abbrev pub line_fits : Resolved → Line → Bool
line_fits r l.Head = true
line_fits r (l.Event number event) = event_fits r event
line_fits r (l.Commit number c) = is_node r c.worker
line_fits r (l.Outcome x) = is_node r x.worker && ending_fits r x.ending
line_fits r (l.Object x) = is_node r x.store
line_fits r (l.End events) = true

-- how many lines stand in front of the first that doesn't fit, behind so many
abbrev pub first_unfit : Resolved → ℕ → List Line → Option ℕ
first_unfit r n [] = None
first_unfit r n (x ∷ xs) = if line_fits r x then first_unfit r (suc n) xs else Some n

-- the place behind so many line ends
abbrev pub place_behind : ℕ → List ℕ → ℕ
place_behind zero bytes = 0
place_behind (suc n) [] = 0
place_behind (suc n) (b ∷ bytes) = suc (if b == 10 then place_behind n bytes else place_behind (suc n) bytes)
