use Rattle.std.proofs.Common.{subst}
use Rattle.fab_drawing.specs.Drawing.{Says}
use Rattle.fab_drawing.specs.Endings.{reply, usage}
use Rattle.fab_drawing.proofs.drawing.reply.Goals as goal

pub returns-in_ok-status-in-None-clause-given : goal.returns-in_ok-status-in-None-clause-given
returns-in_ok-status-in-None-clause-given g c = let e = c.in_ok-status-in-None.ensures in rw (c.in-None.is, e.0, e.1) usage

pub returns-in_ok-said-in-Some-clause-given : goal.returns-in_ok-said-in-Some-clause-given
returns-in_ok-said-in-Some-clause-given g c =
    rw c.in-Some.is (reply c.in_ok-text-in-Some.ensures.text
    (subst (λ t. Says c.in-Some.asked t c.in_ok-said-in-Some.field-0.0 c.in_ok-said-in-Some.field-0.1) c.deref.ensures.value c.in_ok-said-in-Some.ensures))
