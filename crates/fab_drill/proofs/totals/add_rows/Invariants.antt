use Rattle.std.proofs.Common.{◌≡◌, ◌+ℤ◌, flat_map, length}
use Rattle.fab_drill.specs.Summary.{numbers_of, total}
use Rattle.fab_drill.proofs.totals.add_rows.Given as goal

abbrev pub invariant-rows : goal.invariant-rows
invariant-rows l = l.sum +ℤ total (flat_map numbers_of l.rest) ≡ l.before +ℤ total (flat_map numbers_of l.rows)

abbrev pub decreases-rows : goal.decreases-rows
decreases-rows l = length l.rest
