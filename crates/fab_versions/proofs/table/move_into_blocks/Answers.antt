use Rattle.std.proofs.Common.{◌∙◌, arith}
use Rattle.fab_versions.proofs.Whole.{moved}
use Rattle.fab_versions.proofs.table.move_into_blocks.Goals as goal

-- the last row of the list goes into the blocks
pub rows-preserved : goal.rows-preserved
rows-preserved c = (
  moved c.rows.blocks c.put_if_room.new.self c.rows.list.rows c.pop.new.self.rows (c.in-Some.oid, c.in-Some.version, c.in-Some.object)
      c.walk_in_order.ensures c.in-Some.ensures.ascending c.in-Some.ensures.rows c.in-Some.ensures.absent c.in_default-put_if_room.ensures.ok
      ∙ c.rows.invariant.0,
  omega (arith, c.rows.invariant.1, c.in-Some.ensures.spare),
)
