use Rattle.fab_node.proofs.Written.{on_err, on_errs, on_ok, record_calls, written, written_front}
use Rattle.fab_node.proofs.writing.write.Goals as goal

pub returns-in-Some-clause-ok : goal.returns-in-Some-clause-ok
returns-in-Some-clause-ok g c =
    let content = g.J.Journal.content in
    let synced = g.J.Journal.synced in
    on_ok c.append_fitting.result c.append_fitting.ensures.content c.append_fitting.ensures.synced (λ added long n x act h.
    written n x act c.args.plan.now (content c.args.journal.now) (synced c.args.journal.now) h (content c.ready.new.journal) (synced c.ready.new.journal)
    (c.in_ok-ready.ensures.ok n x h.ready) c.in-Some.record.now c.as_slice.result.now c.in-Some.ensures c.as_slice.ensures
    (content c.append_fitting.new.journal) (synced c.append_fitting.new.journal) added long)

pub returns-in-Some-clause-err : goal.returns-in-Some-clause-err
returns-in-Some-clause-err g c =
    let content = g.J.Journal.content in
    let synced = g.J.Journal.synced in
    on_errs c.append_fitting.result c.append_fitting.ensures.err c.append_fitting.ensures.unsynced (λ left same n x act h.
    written_front n x act c.args.plan.now (content c.args.journal.now) (synced c.args.journal.now) h (content c.ready.new.journal) (synced c.ready.new.journal)
    (c.in_ok-ready.ensures.ok n x h.ready) c.in-Some.record.now c.as_slice.result.now c.in-Some.ensures c.as_slice.ensures
    (content c.append_fitting.new.journal) (synced c.append_fitting.new.journal) left.0 left.1 same)

pub returns-in-Some-clause-called : goal.returns-in-Some-clause-called
returns-in-Some-clause-called g c = on_err c.append_fitting.result c.append_fitting.ensures.err (λ left. record_calls c.args.plan.now c.in-Some.record.now c.in-Some.ensures)
