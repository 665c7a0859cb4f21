use Rattle.std.proofs.Common.{sym}
use Rattle.fab_node.proofs.Written.{cuts_call, front_left, on_err, on_errs, on_ok, restarted}
use Rattle.fab_node.proofs.writing.ready.Goals as goal

pub returns-in-Some-clause-ok : goal.returns-in-Some-clause-ok
returns-in-Some-clause-ok g c =
    on_ok c.restart.result c.restart.ensures.kept c.restart.ensures.done (λ kept done n x h.
    restarted n x (g.J.Journal.content c.args.journal.now) (g.J.Journal.synced c.args.journal.now) c.args.plan.now c.in-Some.keep (sym c.in-Some.ensures) h
    (g.J.Journal.content c.restart.new.self) (g.J.Journal.synced c.restart.new.self) kept done)

pub returns-in-Some-clause-err : goal.returns-in-Some-clause-err
returns-in-Some-clause-err g c =
    on_errs c.restart.result c.restart.ensures.front c.restart.ensures.synced (λ left same n x h.
    front_left n x (g.J.Journal.content c.args.journal.now) (g.J.Journal.synced c.args.journal.now) c.args.plan.now c.in-Some.keep (sym c.in-Some.ensures) h
    (g.J.Journal.content c.restart.new.self) (g.J.Journal.synced c.restart.new.self) left same)

pub returns-in-Some-clause-called : goal.returns-in-Some-clause-called
returns-in-Some-clause-called g c = on_err c.restart.result c.restart.ensures.front (λ left. cuts_call c.args.plan.now c.in-Some.keep (sym c.in-Some.ensures))
