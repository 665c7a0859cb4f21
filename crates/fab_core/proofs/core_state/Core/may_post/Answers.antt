use Rattle.std.proofs.Common.{ℕ, List, ap, ◌∙◌}
use Rattle.std.specs.Prelude.{Option}
use Rattle.fab_world.specs.Machine.{Posts, enabled}
use Rattle.fab_node.specs.Standing.{NodeModel}
use Rattle.fab_core.specs.Cores.{CoreModel, setting, world}
use Rattle.fab_nodes.specs.Seen.{may_post_in}
use Rattle.fab_core.proofs.Whole.{core_may_post}
use Rattle.fab_core.proofs.core_state.Core.may_post.Goals as goal

pub returns : goal.returns
returns g c =
    let x = c.self.inside in
    c.may_post.ensures
    ∙ ap (λ (nodes : List (Option NodeModel)). may_post_in x.given nodes c.deref-2.result.now c.args.sender) c.deref.ensures.value
    ∙ ap (λ (places : List ℕ). may_post_in x.given x.nodes.items places c.args.sender) c.deref-2.ensures.value
    ∙ core_may_post x.given x.nodes.items x.queues x.places.items x.log.items c.self.invariant.0 c.args.sender
    ∙ ap (λ (m : CoreModel). enabled (setting m.given) (world m) (Posts c.args.sender)) c.self.view_is
