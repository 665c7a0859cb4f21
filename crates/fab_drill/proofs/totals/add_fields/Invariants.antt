use Rattle.std.proofs.Common.{◌≡◌, ◌+ℤ◌, map, length}
use Rattle.fab_drill.specs.Summary.{number_in, total}
use Rattle.fab_drill.proofs.totals.add_fields.Given as goal

abbrev pub invariant-fields : goal.invariant-fields
invariant-fields l = l.sum +ℤ total (map number_in l.rest) ≡ l.before +ℤ total (map number_in l.fields)

abbrev pub decreases-fields : goal.decreases-fields
decreases-fields l = length l.rest
