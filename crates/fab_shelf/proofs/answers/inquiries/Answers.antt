use Rattle.std.proofs.Common.{arith}
use Rattle.fab_shelf.proofs.Asking.{one_more}
use Rattle.fab_shelf.proofs.answers.inquiries.Goals as goal

pub loop-one-preserved : goal.loop-one-preserved
loop-one-preserved c =
    one_more c.args.prepared.now c.loop-one.one-index c.one-item.result c.loop-one.sends c.push.new.self c.in_ok-inquiry.field-0 (omega (arith, c.loop-one-test.true))
    c.one-item.is c.loop-one.invariant c.in_ok-inquiry.ensures c.in_ok-push.ensures.ok
