use Rattle.std.proofs.Common.{arith}
use Rattle.fab_rights.specs.Computed.{has_bit}
use Rattle.fab_record.proofs.Giving.{given_end, given_step}
use Rattle.fab_record.proofs.part.args_shown.Goals as goal

pub loop-i-preserved : goal.loop-i-preserved
loop-i-preserved c =
    given_step (has_bit c.args.seen.now.labels) (has_bit c.args.seen.now.classes) c.args.locals.now c.args.args.now c.loop-i.values c.push.new.self _ c.loop-i.i c.shown_to.result _
    (omega arith) c.shown_to.ensures c.in_ok-push.ensures.ok c.loop-i.invariant

pub returns : goal.returns
returns c =
    given_end (has_bit c.args.seen.now.labels) (has_bit c.args.seen.now.classes) c.args.locals.now c.args.args.now c.loop-i.values _ c.loop-i.i (omega arith) c.loop-i.invariant
