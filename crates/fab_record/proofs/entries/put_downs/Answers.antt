use Rattle.std.proofs.Common.{arith}
use Rattle.fab_record.specs.Places.{sight_at}
use Rattle.fab_record.proofs.Telling.{downs_end, downs_step}
use Rattle.fab_record.proofs.entries.put_downs.Goals as goal

pub loop-down-preserved : goal.loop-down-preserved
loop-down-preserved c =
    let p = c.args.place.now in
    downs_step p.quiet (sight_at p) p.node c.loop-down.out c.put_down.new.out _ c.args.downs.now c.loop-down.down-index _ c.loop-down-test.true c.in_ok-put_down.ensures c.loop-down.invariant

pub returns : goal.returns
returns c =
    let p = c.args.place.now in
    downs_end p.quiet (sight_at p) p.node c.loop-down.out _ c.args.downs.now c.loop-down.down-index (omega arith) c.loop-down.invariant
