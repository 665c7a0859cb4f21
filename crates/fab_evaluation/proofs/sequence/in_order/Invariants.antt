use Rattle.std.proofs.Common.{◌≡◌, ◌++◌, length}
use Rattle.std.specs.Prelude.{filter_map, flat_map}
use Rattle.fab_language.specs.Evaluation.{asked_at, requests_of}
use Rattle.fab_evaluation.specs.Asking.{asked}
use Rattle.fab_evaluation.proofs.sequence.in_order.Given as goal

abbrev pub invariant-nodes : goal.invariant-nodes
invariant-nodes l = asked l.requests ++ flat_map (λ node. flat_map (asked_at node) l.start.sessions) (filter_map (λ x. x.node) l.rest) ≡ requests_of l.start

abbrev pub decreases-nodes : goal.decreases-nodes
decreases-nodes l = length l.rest
