use Rattle.std.proofs.Common.{map}
use Rattle.fab_language.specs.MethodNumbers.{in_turn}
use Rattle.fab_holes.specs.Holes.{filled_parameter}
use Rattle.fab_infer.specs.Fill.{IsFilled, of_labels}
use Rattle.fab_infer.proofs.filled.fill_parameters.Given as goal

abbrev pub invariant-parameters : goal.invariant-parameters
invariant-parameters l = IsFilled (λ choice. in_turn (map (filled_parameter (of_labels l.declared.labels.now) choice) l.yielded)) l.choice l.out l.left
