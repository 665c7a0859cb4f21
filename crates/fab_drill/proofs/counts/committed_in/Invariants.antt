use Rattle.std.proofs.Common.{◌≡◌, ◌+◌, drop, count_by}
use Rattle.fab_drill.specs.Summary.{joined, is_committed}
use Rattle.fab_drill.proofs.counts.committed_in.Given as goal

abbrev pub invariant-loop-outcomes : goal.invariant-loop-outcomes
invariant-loop-outcomes l = l.count + count_by is_committed (joined (drop l.outcomes-index l.workers)) ≡ count_by is_committed (joined l.workers)
