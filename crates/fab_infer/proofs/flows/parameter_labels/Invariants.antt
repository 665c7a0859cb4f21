use Rattle.std.proofs.Common.{◌≡◌, ◌++◌, drop, map, take}
use Rattle.fab_infer.proofs.flows.parameter_labels.Given as goal

abbrev pub invariant-loop-local : goal.invariant-loop-local
invariant-loop-local l = l.labels ++ map (λ x. x.label.number) (take l.left (drop l.local-index l.local-items)) ≡ map (λ x. x.label.number) (take l.initial.left l.local-items)
