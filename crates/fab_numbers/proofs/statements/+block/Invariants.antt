use Rattle.std.proofs.Common.{◌≡◌, ◌+◌, ◌*◌, ◌++◌, drop}
use Rattle.fab_language.specs.MethodNumbers.{block_of}
use Rattle.fab_language.proofs.Weights.{weight, weights, other_weights}
use Rattle.fab_numbers.proofs.statements.+block.Given as goal

abbrev pub decreases-numbered_statement : goal.decreases-numbered_statement
decreases-numbered_statement l = 3 * weight l.statement.now

abbrev pub decreases-numbered_block : goal.decreases-numbered_block
decreases-numbered_block l = 3 * weights l.block.now + 1

abbrev pub decreases-numbered_choice : goal.decreases-numbered_choice
decreases-numbered_choice l = 3 * (weights l.block.now + other_weights l.otherwise.now) + 2

abbrev pub decreases-numbered_loop : goal.decreases-numbered_loop
decreases-numbered_loop l = 3 * weights l.block.now + 2

abbrev pub decreases-numbered_atomic : goal.decreases-numbered_atomic
decreases-numbered_atomic l = 3 * (weights l.block.now + weights l.otherwise.now) + 2

abbrev pub invariant-numbered_block-loop-statement : goal.invariant-numbered_block-loop-statement
invariant-numbered_block-loop-statement l =
    let rest = block_of l.scope.tables.now l.scope.locals (drop l.statement-index l.block) l.sites in
    let whole = block_of l.scope.tables.now l.scope.locals l.block l.initial.sites in
    record {
      made : l.made ++ rest.0 ≡ whole.0;
      next : rest.1 ≡ whole.1;
    }
