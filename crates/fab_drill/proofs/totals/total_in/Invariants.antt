use Rattle.std.proofs.Common.{◌≡◌, ◌+ℤ◌, flat_map, length}
use Rattle.fab_drill.specs.Summary.{joined, numbers_of, total}
use Rattle.fab_drill.proofs.totals.total_in.Given as goal

abbrev pub invariant-stores : goal.invariant-stores
invariant-stores l = l.sum +ℤ total (flat_map numbers_of (joined l.rest)) ≡ total (flat_map numbers_of (joined l.stores))

abbrev pub decreases-stores : goal.decreases-stores
decreases-stores l = length l.rest
