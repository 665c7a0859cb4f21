use Rattle.std.proofs.lemmas.Result.{err_from_is_err_and}
use Rattle.fab_wire.specs.Reading.{many_at, read_at}
use Rattle.fab_wire.proofs.Loop.{goes_on, ends, is_done}
use Rattle.fab_wire.proofs.lists.reads_of.Goals as goal

pub returns-in_err-read : goal.returns-in_err-read
returns-in_err-read c =
    let p = err_from_is_err_and c.from_residual.result c.from_residual.ensures.1 in
    rw (p.1, p.2) (ends read_at c.in_err-read.field-0.0 c.loop.reads c.args.count c.loop.counter c.loop.rest.now (many_at read_at c.args.count c.args.bytes.now) c.loop-test.true c.in_err-read.ensures c.loop.invariant)

pub loop-preserved : goal.loop-preserved
loop-preserved c =
    rw c.in_ok-push.ensures.ok (goes_on read_at c.loop.reads c.args.count c.loop.counter c.loop.rest.now c.in_ok-read.read c.in_ok-read.after.now (many_at read_at c.args.count c.args.bytes.now) c.loop-test.true c.in_ok-read.ensures c.loop.invariant)

pub returns : goal.returns
returns c = is_done read_at c.loop.reads c.args.count c.loop.counter c.loop.rest.now (many_at read_at c.args.count c.args.bytes.now) c.loop-test.false c.loop.invariant
