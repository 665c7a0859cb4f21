use Rattle.std.proofs.Common.{◌≡◌, drop}
use Rattle.fab_marks.specs.Lives.{is_up}
use Rattle.fab_marks.proofs.lives.is_up.Given as goal

abbrev pub invariant-loop-event : goal.invariant-loop-event
invariant-loop-event l = is_up l.node l.now (drop l.event-index l.events) ≡ is_up l.node l.up l.events
