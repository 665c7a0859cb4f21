use Rattle.std.proofs.Common.{◌≡◌, length}
use Rattle.fab_holes.specs.Flowing.{all_to}
use Rattle.fab_infer.proofs.Gathering.{with_flows}
use Rattle.fab_infer.proofs.flows.put_each.Given as goal

abbrev pub invariant-labels : goal.invariant-labels
invariant-labels l = with_flows l.count l.flows (all_to l.rest l.to) ≡ with_flows l.count l.initial.flows (all_to l.from l.to)

abbrev pub decreases-labels : goal.decreases-labels
decreases-labels l = length l.rest
