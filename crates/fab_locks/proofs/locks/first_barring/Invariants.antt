use Rattle.std.proofs.Common.{◌≡◌, length}
use Rattle.fab_locks.specs.Conflicts.{first_barring}
use Rattle.fab_locks.proofs.locks.first_barring.Given as goal

abbrev pub invariant-loop-one : goal.invariant-loop-one
invariant-loop-one l = first_barring l.oid l.writing l.held ≡ first_barring l.oid l.writing l.rest

abbrev pub decreases-loop-one : goal.decreases-loop-one
decreases-loop-one l = length l.rest
