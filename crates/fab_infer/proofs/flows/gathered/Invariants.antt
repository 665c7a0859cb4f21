use Rattle.std.proofs.Common.{◌≡◌, drop}
use Rattle.std.specs.List.{flat_map}
use Rattle.fab_holes.specs.Flowing.{method_flows, only}
use Rattle.fab_infer.proofs.Gathering.{with_flows}
use Rattle.fab_infer.proofs.flows.gathered.Given as goal

abbrev pub invariant-loop-method : goal.invariant-loop-method
invariant-loop-method l = with_flows l.count l.flows (flat_map (method_flows l.classes l.methods) (drop l.method-index l.methods)) ≡ only l.count (flat_map (method_flows l.classes l.methods) l.methods)
