use Rattle.std.proofs.Common.{◌++◌, length}
use Rattle.fab_known.specs.Tables.{AreAlike}
use Rattle.fab_known.proofs.table.Table.put_all.Given as goal

abbrev pub invariant-loop-row : goal.invariant-loop-row
invariant-loop-row l = AreAlike (l.rest.items ++ l.self) (l.fn.rows ++ l.initial.self)

abbrev pub decreases-loop-row : goal.decreases-loop-row
decreases-loop-row l = length l.rest.items
