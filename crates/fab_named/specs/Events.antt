-- Events whose numbers are of a bundle's workers and stores.
use Rattle.fab_tree.specs.declared.resolved.Event.{Event}
use Rattle.fab_tree.specs.declared.resolved.Event.TheVariants as e
use Rattle.fab_tree.specs.declared.resolved.Resolved.{Resolved}
use Rattle.fab_tree.specs.declared.resolved.Step.{Step}
use Rattle.fab_tree.specs.declared.resolved.Step.TheVariants as s
use Rattle.fab_reports.specs.Showable.{IsNode}

abbrev pub IsStepOf : Resolved → Step → Type 0
IsStepOf r (s.Begin n) = IsNode r n
IsStepOf r (s.Resume n) = IsNode r n
IsStepOf r (s.Deliver a b) = IsNode r a × IsNode r b
IsStepOf r (s.Idle n other) = IsNode r n × IsNode r other
IsStepOf r (s.Recover n) = IsNode r n

abbrev pub IsEventOf : Resolved → Event → Type 0
IsEventOf r (e.Step x) = IsStepOf r x
IsEventOf r (e.CrashIn keep x) = IsStepOf r x
IsEventOf r (e.Post n) = IsNode r n
IsEventOf r (e.Crash n) = IsNode r n
