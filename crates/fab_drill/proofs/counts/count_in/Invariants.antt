use Rattle.std.proofs.Common.{◌≡◌, ◌+◌, drop, length}
use Rattle.fab_drill.specs.Summary.{joined}
use Rattle.fab_drill.proofs.counts.count_in.Given as goal

abbrev pub invariant-loop-list : goal.invariant-loop-list
invariant-loop-list g l = l.count + length (joined (drop l.list-index l.lists)) ≡ length (joined l.lists)
