use Rattle.std.proofs.Common.{◌≡◌, ◌++◌, drop}
use Rattle.fab_infer.specs.Fill.{of_labels, places_among}
use Rattle.fab_infer.proofs.held.put_parameters.Given as goal

abbrev pub invariant-loop-parameter : goal.invariant-loop-parameter
invariant-loop-parameter l = l.out ++ places_among (of_labels l.declared.labels.now) (drop l.parameter-index l.parameters) ≡ l.initial.out ++ places_among (of_labels l.declared.labels.now) l.parameters
