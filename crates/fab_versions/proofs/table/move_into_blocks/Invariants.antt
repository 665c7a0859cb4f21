use Rattle.std.proofs.Common.{◌≡◌, ◌≤◌, length}
use Rattle.fab_versions.specs.Holdings.{rows_of}
use Rattle.fab_versions.proofs.table.move_into_blocks.Given as goal

-- the rows of both are those at the start, and there is no less room
abbrev pub invariant-rows : goal.invariant-rows
invariant-rows l = (rows_of l.blocks l.list.rows ≡ rows_of l.fn.blocks l.fn.list.rows) × (l.fn.list.spare ≤ l.list.spare)

abbrev pub decreases-rows : goal.decreases-rows
decreases-rows l = length l.list.rows
