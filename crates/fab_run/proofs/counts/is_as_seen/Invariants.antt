use Rattle.std.proofs.Common.{◌≡◌, length}
use Rattle.fab_run.specs.Rows.{saw_rows}
use Rattle.fab_run.proofs.counts.is_as_seen.Given as goal

-- the rows and reads that are left decide
abbrev pub invariant-loop-one : goal.invariant-loop-one
invariant-loop-one l = saw_rows l.rows_left l.left ≡ saw_rows l.rows l.seen

abbrev pub decreases-loop-one : goal.decreases-loop-one
decreases-loop-one l = length l.left
