use Rattle.std.proofs.Common.{sym, ◌∙◌}
use Rattle.fab_pauses.proofs.Turning.{is_there, went_on}
use Rattle.fab_pauses.proofs.evaluator.gone_on.Goals as goal

pub unreachable-requires : goal.unreachable-requires
unreachable-requires c =
    let p = c.args.paused in
    let h = c.requires.goes_on in
    is_there c.last_answer.result (p.oid, h.version, h.object) c.in-None.is (c.last_answer.ensures p.job.answers p.oid h.version h.object h.same.answers)

pub returns-clause-job : goal.returns-clause-job
returns-clause-job c =
    let p = c.args.paused in
    let h = c.requires.goes_on in
    went_on p.job p.oid c.args.job h c.in-Some.field-0-0 c.in-Some.version c.in-Some.object
    (sym (c.last_answer.ensures p.job.answers p.oid h.version h.object h.same.answers) ∙ c.in-Some.is) c.go_on.result c.go_on.ensures.turn
