use Rattle.std.proofs.Common.{◌++◌, arith}
use Rattle.fab_record.specs.Places.{sight_at, touched_at}
use Rattle.fab_record.proofs.Telling.{gots_end}
use Rattle.fab_record.proofs.entries.put_gots.Goals as goal

pub returns : goal.returns
returns c =
    let p = c.args.place.now in
    gots_end p.quiet (sight_at p) p.node c.loop-touch.out _ (c.loop-touch.fresh.keys ++ touched_at p) c.args.touches.now c.loop-touch.touch-index (omega arith) c.loop-touch.invariant
