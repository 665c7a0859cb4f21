use Rattle.std.proofs.Common.{◌+◌, refl}
use Rattle.fab_trace.proofs.Told.{told_more}
use Rattle.fab_trace.proofs.events.put_events.Goals as goal

pub loop-index-preserved : goal.loop-index-preserved
loop-index-preserved c =
    let aimed = rw c.as_slice.ensures at c.in_ok-target.ensures.target in
    let moves = rw c.as_slice.ensures at c.in_ok-target.ensures.left in
    told_more c.args.start.now c.args.log.now c.loop-index.places c.target_of.new.places c.loop-index.index (c.loop-index.index + 1) c.in_ok-target.target
    c.index-log-index.result c.args.out.now c.loop-index.out c.put_logged.new.out c.loop-index-test.true c.index-log-index.is aimed moves refl
    c.in_ok-put_logged.ensures c.loop-index.invariant
