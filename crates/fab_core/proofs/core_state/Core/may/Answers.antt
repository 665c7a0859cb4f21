use Rattle.std.proofs.Common.{ℕ, List, ap, ◌∙◌}
use Rattle.std.specs.Prelude.{Option}
use Rattle.fab_world.specs.Machine.{may}
use Rattle.fab_node.specs.Standing.{NodeModel}
use Rattle.fab_core.specs.Cores.{CoreModel, setting, world}
use Rattle.fab_nodes.specs.Seen.{may_in}
use Rattle.fab_core.proofs.Whole.{core_may}
use Rattle.fab_core.proofs.core_state.Core.may.Goals as goal

pub returns : goal.returns
returns g c =
    let x = c.self.inside in
    c.may.ensures
    ∙ ap (λ (nodes : List (Option NodeModel)). may_in x.given nodes x.queues c.deref-2.result.now c.args.event) c.deref.ensures.value
    ∙ ap (λ (places : List ℕ). may_in x.given x.nodes.items x.queues places c.args.event) c.deref-2.ensures.value
    ∙ core_may x.given x.nodes.items x.queues x.places.items x.log.items c.self.invariant.0 c.args.event
    ∙ ap (λ (m : CoreModel). may (setting m.given) (world m) c.args.event) c.self.view_is
