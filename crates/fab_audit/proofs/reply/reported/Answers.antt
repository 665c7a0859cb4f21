use Rattle.std.proofs.Common.{subst}
use Rattle.fab_audit.specs.Replying.{IsRead}
use Rattle.fab_audit.proofs.Replies.{a_bundle, if_said, refused_part, said_part}
use Rattle.fab_audit.proofs.reply.reported.Goals as goal

pub verdict-requires-clause-bundle : goal.verdict-requires-clause-bundle
verdict-requires-clause-bundle c = a_bundle c.in-Bundle.setup (subst (λ x. IsRead c.args.part.now x) c.in-Bundle.is c.in_ok-status.ensures)

pub returns-in-Refused : goal.returns-in-Refused
returns-in-Refused c = refused_part c.requires.few c.requires.parted (subst (λ x. IsRead c.args.part.now x) c.in-Refused.is c.in_ok-status.ensures)

pub returns-in-Bundle : goal.returns-in-Bundle
returns-in-Bundle c =
    if_said c.verdict.result (λ status reply a. said_part c.requires.few c.requires.parted c.in-Bundle.setup (subst (λ x. IsRead c.args.part.now x) c.in-Bundle.is c.in_ok-status.ensures) a)
    c.verdict.ensures
