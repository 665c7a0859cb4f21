use Rattle.fab_node.proofs.Written.{on_errs, on_ok, written_front, written_part}
use Rattle.fab_node.proofs.writing.write_front.Goals as goal

pub returns-clause-ok : goal.returns-clause-ok
returns-clause-ok g c =
    let content = g.J.Journal.content in
    let synced = g.J.Journal.synced in
    on_ok c.write_bytes.result c.write_bytes.ensures.content c.write_bytes.ensures.synced (λ added long given n x act h.
    written_part n x act c.args.plan.now (content c.args.journal.now) (synced c.args.journal.now) h (content c.ready.new.journal) (synced c.ready.new.journal)
    (c.in_ok-ready.ensures.ok n x h.ready) c.in-Some.record.now c.as_slice.result.now c.in-Some.ensures c.as_slice.ensures
    given c.args.keep (content c.write_bytes.new.journal) (synced c.write_bytes.new.journal) added long)

pub returns-clause-err : goal.returns-clause-err
returns-clause-err g c =
    let content = g.J.Journal.content in
    let synced = g.J.Journal.synced in
    on_errs c.write_bytes.result c.write_bytes.ensures.err c.write_bytes.ensures.unsynced (λ left same n x act h.
    written_front n x act c.args.plan.now (content c.args.journal.now) (synced c.args.journal.now) h (content c.ready.new.journal) (synced c.ready.new.journal)
    (c.in_ok-ready.ensures.ok n x h.ready) c.in-Some.record.now c.as_slice.result.now c.in-Some.ensures c.as_slice.ensures
    (content c.write_bytes.new.journal) (synced c.write_bytes.new.journal) left.0 left.1 same)
