use denote.Param.Send.{sendable}
use Rattle.std.proofs.Common.{Bool, sym, ap, subst, ◌∙◌}
use Rattle.std.proofs.Crossing.{crosses}
use Rattle.fab_core.specs.Cores.{CoreModel, slot}
use Rattle.fab_core.specs.Moved.{sure_in}
use Rattle.fab_exchange.specs.Turns.{AreOver}
use Rattle.fab_run.proofs.Crossing.{Watched-send}
use Rattle.fab_run.proofs.watching.run_told.Goals as goal

pub run_turning-requires-send-X : goal.run_turning-requires-send-X
run_turning-requires-send-X g c κs within = search (sendable, crosses, Watched-send) depth 20

pub returns-in-Ok-clause-sure : goal.returns-in-Ok-clause-sure
returns-in-Ok-clause-sure g c = λ n.
    let sure : CoreModel → Bool = λ x. sure_in (slot x.journals n) in
    ap sure c.close.ensures ∙ c.in-Ok.ensures.sure n ∙ ap sure c.new-watched.ensures

pub returns-in-Ok-clause-over : goal.returns-in-Ok-clause-over
returns-in-Ok-clause-over g c = subst (λ (x : CoreModel). AreOver x.given x.moves) (sym c.close.ensures) c.in-Ok.ensures.over.over

pub returns-in-Err-clause-back_sure : goal.returns-in-Err-clause-back_sure
returns-in-Err-clause-back_sure g c = λ n.
    let sure : CoreModel → Bool = λ x. sure_in (slot x.journals n) in
    ap sure c.close-in-Err.ensures ∙ c.in-Err.ensures.back_sure n ∙ ap sure c.new-watched.ensures
