use Rattle.std.proofs.Common.{List, ap, ◌∙◌}
use Rattle.std.specs.Prelude.{Option}
use Rattle.fab_world.specs.Machine.{outcome}
use Rattle.fab_node.specs.Standing.{NodeModel}
use Rattle.fab_core.specs.Cores.{CoreModel, setting, slot, world}
use Rattle.fab_nodes.specs.Seen.{outcome_in}
use Rattle.fab_core.proofs.Whole.{core_outcome}
use Rattle.fab_core.proofs.core_state.Core.outcome.Goals as goal

pub returns : goal.returns
returns g c =
    let x = c.self.inside in
    c.outcome_at.ensures
    ∙ ap (λ (nodes : List (Option NodeModel)). outcome_in (slot nodes c.from.result) c.args.request) c.deref.ensures.value
    ∙ ap (λ n. outcome_in (slot x.nodes.items n) c.args.request) c.from.ensures
    ∙ core_outcome x.given x.nodes.items x.queues x.places.items x.log.items c.self.invariant.0 c.args.worker c.args.request
    ∙ ap (λ (m : CoreModel). outcome (setting m.given) (world m) c.args.worker c.args.request) c.self.view_is
