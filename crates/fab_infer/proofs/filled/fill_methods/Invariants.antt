use Rattle.std.proofs.Common.{map}
use Rattle.fab_language.specs.MethodNumbers.{in_turn}
use Rattle.fab_holes.specs.Holes.{filled_method}
use Rattle.fab_infer.specs.Fill.{IsFilled, of_labels}
use Rattle.fab_infer.proofs.filled.fill_methods.Given as goal

abbrev pub invariant-methods : goal.invariant-methods
invariant-methods l = IsFilled (λ choice. in_turn (map (filled_method (of_labels l.declared.labels.now) choice) l.yielded)) l.choice l.out l.left
