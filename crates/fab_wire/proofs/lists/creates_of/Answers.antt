use Rattle.std.proofs.lemmas.Result.{err_from_is_err_and}
use Rattle.fab_wire.specs.Reading.{many_at, create_at}
use Rattle.fab_wire.proofs.Loop.{goes_on, ends, is_done}
use Rattle.fab_wire.proofs.lists.creates_of.Goals as goal

pub returns-in_err-create : goal.returns-in_err-create
returns-in_err-create c =
    let p = err_from_is_err_and c.from_residual.result c.from_residual.ensures.1 in
    rw (p.1, p.2) (ends create_at c.in_err-create.field-0.0 c.loop.creates c.args.count c.loop.counter c.loop.rest.now (many_at create_at c.args.count c.args.bytes.now) c.loop-test.true c.in_err-create.ensures c.loop.invariant)

pub loop-preserved : goal.loop-preserved
loop-preserved c =
    rw c.in_ok-push.ensures.ok (goes_on create_at c.loop.creates c.args.count c.loop.counter c.loop.rest.now c.in_ok-create.create c.in_ok-create.after.now (many_at create_at c.args.count c.args.bytes.now) c.loop-test.true c.in_ok-create.ensures c.loop.invariant)

pub returns : goal.returns
returns c = is_done create_at c.loop.creates c.args.count c.loop.counter c.loop.rest.now (many_at create_at c.args.count c.args.bytes.now) c.loop-test.false c.loop.invariant
