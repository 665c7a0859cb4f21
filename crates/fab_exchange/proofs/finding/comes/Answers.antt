use Rattle.std.proofs.Common.{ap, ◌∙◌}
use Rattle.fab_net.specs.declared.event.Event.{Event}
use Rattle.fab_world.specs.Machine.{enabled, form_of}
use Rattle.fab_core.specs.Cores.{setting, unmarked, world}
use Rattle.fab_core.proofs.Tables.{form_is}
use Rattle.fab_exchange.specs.Dues.{comes}
use Rattle.fab_exchange.proofs.finding.comes.Goals as goal

pub returns : goal.returns
unfolding comes
returns g c =
    let m = c.args.core.now in
    c.may_whole.ensures ∙ ap (λ (e : Event). enabled (setting m.given) (world m) (form_of (unmarked e))) c.whole.ensures.same
    ∙ ap (enabled (setting m.given) (world m)) (form_is c.args.inner)
