use Rattle.std.proofs.Common.{arith}
use Rattle.fab_meaning.proofs.AtStart.{next_blank}
use Rattle.fab_meaning.proofs.shown.blanks.Goals as goal

pub loop-i-preserved : goal.loop-i-preserved
loop-i-preserved c = next_blank c.args.values.now c.loop-i.i c.loop-i.all.items c.push.new.self.items (omega arith) c.in_ok-push.ensures.items c.loop-i.invariant
