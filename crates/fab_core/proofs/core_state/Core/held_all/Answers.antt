use Rattle.std.proofs.Common.{List, map, ap, ◌∙◌}
use Rattle.std.specs.Prelude.{Option}
use Rattle.std.specs.List.{range_with_len}
use Rattle.fab_node.specs.Standing.{NodeModel}
use Rattle.fab_core.specs.Cores.{CoreModel, world}
use Rattle.fab_nodes.specs.Seen.{held_in}
use Rattle.fab_core.specs.Telling.{all_held, node_count}
use Rattle.fab_core.proofs.Whole.{core_held_all}
use Rattle.fab_core.proofs.core_state.Core.held_all.Goals as goal

pub returns : goal.returns
returns g c =
    let x = c.self.inside in
    c.in_ok-all_rows.ensures
    ∙ ap (λ (nodes : List (Option NodeModel)). map (held_in nodes) (range_with_len 0 (node_count x.given.program))) c.deref.ensures.value
    ∙ core_held_all x.given x.nodes.items x.queues x.places.items x.log.items c.self.invariant.0
    ∙ ap (λ (m : CoreModel). all_held m.given (world m)) c.self.view_is
