use Rattle.std.proofs.Common.{length, subst}
use Rattle.fab_front.specs.declared.status.Status.TheVariants.{Trace}
use Rattle.fab_front.specs.Lines.{trace_line}
use Rattle.fab_front.proofs.Accepting.{if_told}
use Rattle.fab_audit.specs.Audits.{IsAudited}
use Rattle.fab_audit.specs.Replying.{IsRead}
use Rattle.fab_audit.proofs.Replies.{refused_whole, unreported_whole}
use Rattle.fab_audit.proofs.reply.unreported.Goals as goal

pub returns-in-Refused : goal.returns-in-Refused
returns-in-Refused c = refused_whole c.requires.few c.requires.none (subst (λ x. IsRead c.args.text.now x) c.in-Refused.is c.in_ok-status.ensures)

pub returns : goal.returns
returns c =
    if_told (IsAudited c.args.text.now) (Trace (length c.args.text.now)) (trace_line (length c.args.text.now)) c.trace.result c.trace.ensures
    (unreported_whole c.requires.few c.requires.none c.in-Bundle.field-0 (subst (λ x. IsRead c.args.text.now x) c.in-Bundle.is c.in_ok-status.ensures))
