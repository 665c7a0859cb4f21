use Rattle.std.proofs.Common.{arith}
use Rattle.fab_store.proofs.Roots.{next_root}
use Rattle.fab_store.proofs.start.table_at_start.Goals as goal

pub loop-root-preserved : goal.loop-root-preserved
loop-root-preserved c =
    next_root c.args.store c.args.roots.now c.loop-root.root-index c.root-item.result (omega (arith, c.loop-root-test.true)) c.root-item.is c.requires.ascending
    c.loop-root.table.rows _ c.loop-root.invariant c.in_ok-put_root.ensures
