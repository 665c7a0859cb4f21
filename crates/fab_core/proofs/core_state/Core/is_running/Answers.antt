use Rattle.std.proofs.Common.{List, ap, ◌∙◌}
use Rattle.std.specs.Prelude.{Option}
use Rattle.fab_world.specs.Machine.{is_running}
use Rattle.fab_node.specs.Standing.{NodeModel}
use Rattle.fab_core.specs.Cores.{CoreModel, setting, slot, world}
use Rattle.fab_nodes.specs.Transit.{is_up_in}
use Rattle.fab_core.proofs.Whole.{core_up}
use Rattle.fab_core.proofs.core_state.Core.is_running.Goals as goal

pub returns : goal.returns
returns g c =
    let x = c.self.inside in
    c.is_up.ensures
    ∙ ap (λ (nodes : List (Option NodeModel)). is_up_in (slot nodes c.args.number)) c.deref.ensures.value
    ∙ core_up x.given x.nodes.items x.queues x.places.items x.log.items c.self.invariant.0 c.args.number
    ∙ ap (λ (m : CoreModel). is_running (setting m.given) (world m) c.args.number) c.self.view_is
