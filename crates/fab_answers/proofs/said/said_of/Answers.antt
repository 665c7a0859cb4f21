use Rattle.std.proofs.Common.{subst}
use Rattle.fab_front.specs.Front.{IsFront}
use Rattle.fab_answers.proofs.Saying.{limit_said, syntax_said}
use Rattle.fab_answers.proofs.said.said_of.Goals as goal

pub returns-in_ok-reply-in-Syntax : goal.returns-in_ok-reply-in-Syntax
returns-in_ok-reply-in-Syntax c = rw c.in_ok-reply-in-Syntax.ensures (syntax_said c.requires (subst (λ x. IsFront c.args.text.now x) c.in-Syntax.is c.in_ok-at.ensures))

pub returns-in_ok-reply-in-Limit : goal.returns-in_ok-reply-in-Limit
returns-in_ok-reply-in-Limit c = rw c.in_ok-reply-in-Limit.ensures (limit_said c.requires (subst (λ x. IsFront c.args.text.now x) c.in-Limit.is c.in_ok-at.ensures))
