use Rattle.std.proofs.Common.{◌+◌, ◌*◌, map}
use Rattle.fab_language.proofs.Weights.{weight, weights, other_weights}
use Rattle.fab_language.specs.MethodNumbers.{in_turn}
use Rattle.fab_holes.specs.Holes.{filled_statement}
use Rattle.fab_infer.specs.Fill.{IsFilled, of_labels}
use Rattle.fab_infer.proofs.filled.+fill.Given as goal

abbrev pub decreases-fill_statement : goal.decreases-fill_statement
decreases-fill_statement l = 4 * weight l.statement

abbrev pub decreases-fill_block : goal.decreases-fill_block
decreases-fill_block l = 4 * weights l.block + 1

abbrev pub decreases-fill_choice : goal.decreases-fill_choice
decreases-fill_choice l = 4 * (weights l.block + other_weights l.otherwise) + 3

abbrev pub decreases-fill_atomic : goal.decreases-fill_atomic
decreases-fill_atomic l = 4 * (weights l.block + weights l.otherwise) + 3

abbrev pub decreases-fill_other : goal.decreases-fill_other
decreases-fill_other l = 4 * other_weights l.otherwise + 2

abbrev pub invariant-fill_block-statements : goal.invariant-fill_block-statements
invariant-fill_block-statements l = IsFilled (λ choice. in_turn (map (filled_statement (of_labels l.declared.labels.now) choice) l.yielded)) l.choice l.out l.left
