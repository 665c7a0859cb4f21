use Rattle.std.proofs.Common.{List, length, map, ap, ◌∙◌}
use Rattle.std.specs.Prelude.{Option}
use Rattle.std.specs.List.{range_with_len}
use Rattle.fab_attempts.specs.Sessions.{requests_of}
use Rattle.fab_node.specs.Standing.{NodeModel}
use Rattle.fab_core.specs.Cores.{CoreModel, slot, world}
use Rattle.fab_nodes.specs.Seen.{outcomes_in}
use Rattle.fab_core.specs.Telling.{all_outcomes, node_count}
use Rattle.fab_core.proofs.Whole.{core_outcomes, core_requests}
use Rattle.fab_core.proofs.core_state.Core.outcomes.Goals as goal

pub all_outcomes-requires : goal.all_outcomes-requires
all_outcomes-requires g c = let x = c.self.inside in core_requests x.given x.nodes.items x.queues x.places.items x.log.items c.self.invariant.0

pub returns : goal.returns
returns g c =
    let x = c.self.inside in
    c.in_ok-all_outcomes.ensures
    ∙ ap (λ (nodes : List (Option NodeModel)).
    map (λ n. outcomes_in (slot nodes n) (length (requests_of x.given.program n))) (range_with_len 0 (node_count x.given.program))) c.deref.ensures.value
    ∙ core_outcomes x.given x.nodes.items x.queues x.places.items x.log.items c.self.invariant.0
    ∙ ap (λ (m : CoreModel). all_outcomes m.given (world m)) c.self.view_is
