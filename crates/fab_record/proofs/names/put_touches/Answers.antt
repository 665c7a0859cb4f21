use Rattle.std.proofs.Common.{arith}
use Rattle.fab_record.specs.Views.{sight_in}
use Rattle.fab_record.proofs.Naming.{touch_end, touch_step}
use Rattle.fab_record.proofs.names.put_touches.Goals as goal

pub loop-touch-preserved : goal.loop-touch-preserved
loop-touch-preserved c =
    touch_step (sight_in c.args.sights.now) c.loop-touch.names.keys c.put_touch.new.names.keys _ c.args.touches.now c.loop-touch.touch-index _
    c.loop-touch-test.true c.in_ok-put_touch.ensures c.loop-touch.invariant

pub returns : goal.returns
returns c = touch_end (sight_in c.args.sights.now) c.loop-touch.names.keys _ c.args.touches.now c.loop-touch.touch-index (omega arith) c.loop-touch.invariant
