use Rattle.std.proofs.Common.{◌≡◌, ◌+◌, ◌*◌, length, take, drop}
use Rattle.fab_language.specs.Heads.{heads_in}
use Rattle.fab_faults.specs.HeadFaults.{among}
use Rattle.fab_rules.specs.First.{first_from}
use Rattle.fab_language.proofs.Weights.{weight, weights, other_weights}
use Rattle.fab_faults.proofs.walk.+walk.Given as goal

abbrev pub decreases-in_statement : goal.decreases-in_statement
decreases-in_statement g l = 4 * weight l.statement.now

abbrev pub decreases-in_row : goal.decreases-in_row
decreases-in_row g l = 4 * weights l.statements.now + 1

abbrev pub decreases-in_block : goal.decreases-in_block
decreases-in_block g l = 4 * weights l.block.now + 2

abbrev pub decreases-in_choice : goal.decreases-in_choice
decreases-in_choice g l = 4 * (weights l.block.now + other_weights l.otherwise.now) + 3

abbrev pub decreases-in_loop : goal.decreases-in_loop
decreases-in_loop g l = 4 * weights l.block.now + 3

abbrev pub decreases-in_attempt : goal.decreases-in_attempt
decreases-in_attempt g l = 4 * (weights l.block.now + weights l.otherwise.now) + 3

-- what is found from here on is what is found in the whole, and the locals from before are kept
abbrev pub invariant-in_row-loop-statement : goal.invariant-in_row-loop-statement
invariant-in_row-loop-statement g l = record {
  found : first_from l.first (among (g.R.HeadRule.says l.rule) (heads_in (drop l.statement-index l.statements) l.known).heads) ≡ first_from l.initial.first (among (g.R.HeadRule.says l.rule) (heads_in l.statements l.initial.known).heads);
  behind : (heads_in (drop l.statement-index l.statements) l.known).behind ≡ (heads_in l.statements l.initial.known).behind;
  kept : take (length l.initial.known) l.known ≡ l.initial.known;
}
