use Rattle.std.proofs.lemmas.Result.{err_from_is_err_and}
use Rattle.fab_journal.specs.EntryReading.{ascending_at}
use Rattle.fab_journal.proofs.Ascending.{goes_on, ends, is_done}
use Rattle.fab_journal.proofs.fields.ascending_of.Goals as goal

pub returns-in_err-store : goal.returns-in_err-store
returns-in_err-store c =
    let p = err_from_is_err_and c.from_residual.result c.from_residual.ensures.1 in
    rw (p.1, p.2) (ends c.in_err-store.field-0.0 c.loop-i.stores c.args.count c.loop-i.i c.loop-i.low c.loop-i.rest.now (ascending_at c.args.count 0 c.args.bytes.now) c.loop-i-test.true c.in_err-store.ensures c.loop-i.invariant)

pub loop-i-preserved : goal.loop-i-preserved
loop-i-preserved c =
    rw c.in_ok-push.ensures.ok (goes_on c.loop-i.stores c.args.count c.loop-i.i c.loop-i.low c.loop-i.rest.now c.in_ok-store.store c.in_ok-store.after.now (ascending_at c.args.count 0 c.args.bytes.now) c.loop-i-test.true c.in_ok-store.ensures c.loop-i.invariant)

pub returns : goal.returns
returns c = is_done c.loop-i.stores c.args.count c.loop-i.i c.loop-i.low c.loop-i.rest.now (ascending_at c.args.count 0 c.args.bytes.now) c.loop-i-test.false c.loop-i.invariant
