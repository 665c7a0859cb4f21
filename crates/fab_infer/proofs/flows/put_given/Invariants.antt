use Rattle.std.proofs.Common.{◌≡◌, drop}
use Rattle.fab_infer.specs.Shown.{given_flows}
use Rattle.fab_infer.proofs.Gathering.{with_flows}
use Rattle.fab_infer.proofs.flows.put_given.Given as goal

abbrev pub invariant-loop-value : goal.invariant-loop-value
invariant-loop-value l = with_flows l.scope.count l.flows (given_flows l.scope l.pc (drop l.value-index l.values) l.to) ≡ with_flows l.scope.count l.initial.flows (given_flows l.scope l.pc l.values l.initial.to)
