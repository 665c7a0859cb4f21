use Rattle.std.proofs.Common.{◌≡◌, ◌+◌, ◌*◌, drop}
use Rattle.fab_check.specs.Noted.{all_noted}
use Rattle.fab_check.specs.Shown.{block_owes}
use Rattle.fab_check.proofs.Weights.{weight, weights}
use Rattle.fab_check.proofs.statements.+block.Given as goal

abbrev pub decreases-note_statement : goal.decreases-note_statement
decreases-note_statement l = 3 * weight l.statement.now

abbrev pub decreases-note_block : goal.decreases-note_block
decreases-note_block l = 3 * weights l.statements.now + 1

abbrev pub decreases-note_choice : goal.decreases-note_choice
decreases-note_choice l = 3 * (weights l.block.now + weights l.otherwise.now) + 2

abbrev pub decreases-note_loop : goal.decreases-note_loop
decreases-note_loop l = 3 * weights l.block.now + 2

abbrev pub decreases-note_atomic : goal.decreases-note_atomic
decreases-note_atomic l = 3 * (weights l.block.now + weights l.otherwise.now) + 2

abbrev pub invariant-note_block-loop-statement : goal.invariant-note_block-loop-statement
invariant-note_block-loop-statement l = all_noted l.verdicts (block_owes l.scope l.under.pc.now l.under.failure (drop l.statement-index l.statements)) ≡ all_noted l.initial.verdicts (block_owes l.scope l.under.pc.now l.under.failure l.statements)
