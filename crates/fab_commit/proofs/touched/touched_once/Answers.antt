use Rattle.fab_nested.proofs.Touching.{names_next}
use Rattle.fab_commit.proofs.touched.touched_once.Goals as goal

pub loop-touch-preserved : goal.loop-touch-preserved
loop-touch-preserved c = names_next _ _ _ _ _ c.loop-touch-test.true c.loop-touch.invariant c.in_ok-insert.ensures.keys
