use Rattle.std.proofs.Common.{◌≡◌}
use Rattle.fab_versions.specs.Blocked.{rows_in}
use Rattle.fab_versions.proofs.blocks.joined.Given as goal

-- the rows are those of the blocks so far
abbrev pub invariant-loop-block : goal.invariant-loop-block
invariant-loop-block l = l.rows.items ≡ rows_in l.yielded
