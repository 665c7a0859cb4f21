-- The events of a report with the numbers of their nodes.
use Rattle.std.specs.Prelude.{ℕ, ◌-◌, List, [], ◌∷◌, Option, Some, None, flat_map, take, drop}
use Rattle.fab_tree.specs.declared.resolved.Resolved.{Resolved}
use Rattle.fab_reports.specs.declared.line.ShownInner.{ShownInner}
use Rattle.fab_reports.specs.declared.line.ShownInner.TheVariants as i
use Rattle.fab_reports.specs.declared.line.ShownEvent.{ShownEvent}
use Rattle.fab_reports.specs.declared.line.ShownEvent.TheVariants as e
use Rattle.fab_reports.specs.declared.line.Line.{Line}
use Rattle.fab_reports.specs.declared.line.Line.TheVariants as l
use Rattle.fab_marks.specs.declared.shape.Sign.{Sign}
use Rattle.fab_marks.specs.declared.shape.Sign.TheVariants as s
use Rattle.fab_marks.specs.declared.moves.Move.{Move}
use Rattle.fab_marks.specs.Nodes.{number_of}

-- what happened at a node; between a node and another one; the same with bytes
abbrev pub alone : ℕ → Option ℕ → Sign → ℕ → Move
alone number cut sign node = record { number = number; cut = cut; sign = sign; node = node; other = node; bytes = [] }

abbrev pub between : ℕ → Option ℕ → Sign → ℕ → ℕ → List ℕ → Move
between number cut sign node other bytes = record { number = number; cut = cut; sign = sign; node = node; other = other; bytes = bytes }

-- A delivery is at its receiver, a post at its sender.
abbrev pub move_inner : Resolved → ℕ → Option ℕ → ShownInner → Move
move_inner r number cut (i.Begin worker) = alone number cut s.Begin (number_of r worker)
move_inner r number cut (i.Resume worker) = alone number cut s.Resume (number_of r worker)
move_inner r number cut (i.Deliver sender receiver bytes) = between number cut s.Deliver (number_of r receiver) (number_of r sender) bytes
move_inner r number cut (i.Idle worker node) = between number cut s.Idle (number_of r worker) (number_of r node) []
move_inner r number cut (i.Recover node) = alone number cut s.Recover (number_of r node)

abbrev pub move_of : Resolved → ℕ → ShownEvent → Move
move_of r number (e.Inner event) = move_inner r number None event
move_of r number (e.Post sender receiver bytes) = between number None s.Post (number_of r sender) (number_of r receiver) bytes
move_of r number (e.Crash node) = alone number None s.Crash (number_of r node)
move_of r number (e.CrashIn keep event) = move_inner r number (Some keep) event

abbrev pub moves_in : Resolved → Line → List Move
moves_in r l.Head = []
moves_in r (l.Event number event) = move_of r number event ∷ []
moves_in r (l.Commit number commit) = []
moves_in r (l.Outcome x) = []
moves_in r (l.Object x) = []
moves_in r (l.End events) = []

-- those of a report, in order
abbrev pub moves : Resolved → List Line → List Move
moves r = flat_map (moves_in r)

-- those in front of event number `from`, counted from 1, and those from there to number `to`, at most 1,000
abbrev pub most_events : ℕ
most_events = 1000

abbrev pub before : ℕ → List Move → List Move
before from events = take (from - 1) events

abbrev pub within : ℕ → ℕ → List Move → List Move
within from to events = take most_events (drop (from - 1) (take to events))
