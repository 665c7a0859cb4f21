use Rattle.std.proofs.Common.{arith}
use Rattle.fab_meaning.proofs.AtStart.{given_more, given_all}
use Rattle.fab_meaning.proofs.methods.args_shown.Goals as goal

pub loop-i-preserved : goal.loop-i-preserved
loop-i-preserved c =
    given_more c.args.sight c.args.locals.now c.args.args.now c.loop-i.i c.loop-i.values.items c.push.new.self.items c.given_at.result (omega arith) c.given_at.ensures c.in_ok-push.ensures.items c.loop-i.invariant

pub returns : goal.returns
returns c = given_all c.args.sight c.args.locals.now c.args.args.now c.loop-i.i c.loop-i.values.items (omega arith) c.loop-i.invariant
