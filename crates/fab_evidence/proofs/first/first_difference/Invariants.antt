use Rattle.std.proofs.Common.{◌≡◌, ◌+◌, ◌≤◌, length}
use Rattle.fab_evidence.specs.First.{first_from, rows_of}
use Rattle.fab_evidence.proofs.first.first_difference.Given as goal

abbrev pub invariant-lines : goal.invariant-lines
invariant-lines l = record {
  same : first_from l.line (rows_of l.left) (rows_of l.right) ≡ first_from 1 (rows_of l.found) (rows_of l.kept);
  few : l.line + length l.left ≤ length l.found + 1;
}

abbrev pub decreases-lines : goal.decreases-lines
decreases-lines l = length l.left
