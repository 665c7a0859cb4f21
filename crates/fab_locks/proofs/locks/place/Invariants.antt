use Rattle.std.proofs.Common.{take, IsFalse}
use Rattle.fab_locks.specs.Conflicts.{holds_tid}
use Rattle.fab_locks.proofs.locks.place.Given as goal

abbrev pub invariant-loop-at : goal.invariant-loop-at
invariant-loop-at l = IsFalse (holds_tid l.tid (take l.at l.held))
