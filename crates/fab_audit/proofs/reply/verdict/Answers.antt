use Rattle.std.proofs.Common.{Ok, Err, sym, subst}
use Rattle.fab_front.specs.declared.status.Status.TheVariants.{Wrong}
use Rattle.fab_front.specs.Lines.{wrong_lines}
use Rattle.fab_front.proofs.Accepting.{if_told}
use Rattle.fab_audit.specs.Auditing.{IsAudit}
use Rattle.fab_audit.specs.Replying.{Answers}
use Rattle.fab_audit.proofs.Replies.{answers_right, answers_trace, answers_wrong}
use Rattle.fab_audit.proofs.reply.verdict.Goals as goal

pub returns-in_ok-reply-in-Ok-Right : goal.returns-in_ok-reply-in-Ok-Right
returns-in_ok-reply-in-Ok-Right c =
    let r = c.args.setup.program.value in
    let audit = subst (λ x. IsAudit r c.args.setup.rights c.args.report.now (Ok x)) c.in-Ok-Right.field-0-is c.in-Ok-Right.ensures in
    rw c.in_ok-reply-in-Ok-Right.ensures (answers_right r c.args.setup.rights c.args.before c.args.report.now audit)

pub returns-in-Ok-Wrong : goal.returns-in-Ok-Wrong
returns-in-Ok-Wrong c =
    let r = c.args.setup.program.value in
    let d = c.in-Ok-Wrong.difference in
    let P = Answers r c.args.setup.rights c.args.before c.args.report.now in
    let audit = subst (λ x. IsAudit r c.args.setup.rights c.args.report.now (Ok x)) c.in-Ok-Wrong.field-0-is c.in-Ok-Wrong.ensures in
    if_told P (Wrong d.line) (wrong_lines d.line c.as_slice.result.now c.as_slice-in-Ok-Wrong.result.now) c.wrong.result c.wrong.ensures
    (subst (λ t. P (Wrong d.line) (wrong_lines d.line c.as_slice.result.now t)) (sym c.as_slice-in-Ok-Wrong.ensures)
    (subst (λ t. P (Wrong d.line) (wrong_lines d.line t d.kept)) (sym c.as_slice.ensures) (answers_wrong r c.args.setup.rights c.args.before c.args.report.now d audit)))

pub returns-in-Err-Trace : goal.returns-in-Err-Trace
returns-in-Err-Trace c =
    let r = c.args.setup.program.value in
    let audit = subst (λ x. IsAudit r c.args.setup.rights c.args.report.now (Err x)) c.in-Err-Trace.field-0-is c.in-Err-Trace.ensures in
    if_told (Answers r c.args.setup.rights c.args.before c.args.report.now) _ _ c.trace.result c.trace.ensures
    (answers_trace r c.args.setup.rights c.args.before c.args.report.now c.in-Err-Trace.at audit)
