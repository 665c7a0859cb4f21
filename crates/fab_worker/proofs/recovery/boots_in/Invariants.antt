use Rattle.std.proofs.Common.{◌≡◌, ◌+◌, ◌≤◌, length}
use Rattle.fab_worker.specs.Records.{boots_in}
use Rattle.fab_worker.proofs.recovery.boots_in.Given as goal

abbrev pub invariant-loop-entry : goal.invariant-loop-entry
invariant-loop-entry l = record {
  counted : l.boots + boots_in l.rest ≡ boots_in l.entries;
  few : l.boots + length l.rest ≤ length l.entries;
}

abbrev pub decreases-loop-entry : goal.decreases-loop-entry
decreases-loop-entry l = length l.rest
