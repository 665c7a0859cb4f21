use Rattle.std.proofs.Common.{subst}
use Rattle.fab_front.specs.Front.{IsFront}
use Rattle.fab_front.specs.Refused.{limit, syntax}
use Rattle.fab_answers.proofs.Saying.{limit_said, syntax_said}
use Rattle.fab_audit.proofs.Replies.{is_refused}
use Rattle.fab_audit.proofs.reply.read_part.Goals as goal

pub returns-in_ok-reply-in-Syntax : goal.returns-in_ok-reply-in-Syntax
returns-in_ok-reply-in-Syntax c =
    let f = subst (λ x. IsFront c.args.part.now x) c.in-Syntax.is c.in_ok-at.ensures in
    rw c.in_ok-reply-in-Syntax.ensures (is_refused (syntax tt f.is) (syntax_said tt f))

pub returns-in_ok-reply-in-Limit : goal.returns-in_ok-reply-in-Limit
returns-in_ok-reply-in-Limit c =
    let f = subst (λ x. IsFront c.args.part.now x) c.in-Limit.is c.in_ok-at.ensures in
    rw c.in_ok-reply-in-Limit.ensures (is_refused (limit tt f.is) (limit_said tt f))
