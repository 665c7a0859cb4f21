use Rattle.std.proofs.Common.{List, ap, ◌∙◌}
use Rattle.std.specs.Prelude.{Option}
use Rattle.fab_node.specs.Standing.{NodeModel}
use Rattle.fab_core.specs.Cores.{CoreModel, world}
use Rattle.fab_nodes.specs.Seen.{held_in}
use Rattle.fab_core.specs.Telling.{held_here}
use Rattle.fab_nodes.specs.Under.{under}
use Rattle.fab_core.proofs.Whole.{core_held}
use Rattle.fab_core.proofs.core_state.Core.held.Goals as goal

pub returns : goal.returns
returns g c =
    let x = c.self.inside in
    c.held_at.ensures
    ∙ ap (λ (nodes : List (Option NodeModel)). under (held_in nodes c.args.oid.store) c.args.oid) c.deref.ensures.value
    ∙ ap (λ rows. under rows c.args.oid) (core_held x.given x.nodes.items x.queues x.places.items x.log.items c.self.invariant.0 c.args.oid.store)
    ∙ ap (λ (m : CoreModel). under (held_here m.given (world m) c.args.oid.store) c.args.oid) c.self.view_is
