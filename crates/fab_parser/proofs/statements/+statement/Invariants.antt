use Rattle.std.proofs.Common.{◌+◌, ◌*◌, ◌++◌, length}
use Rattle.fab_tree.specs.Lists.{Repeated}
use Rattle.fab_tree.specs.Statements.{IsStatement}
use Rattle.fab_reading.proofs.Rules.{Going}
use Rattle.fab_parser.specs.Pieces.{behind_statements}
use Rattle.fab_parser.proofs.statements.+statement.Given as goal

abbrev pub decreases-block : goal.decreases-block
decreases-block l = 5 * l.room

abbrev pub decreases-otherwise : goal.decreases-otherwise
decreases-otherwise l = 5 * l.room + 1

abbrev pub decreases-choice : goal.decreases-choice
decreases-choice l = 5 * l.room + 2

abbrev pub decreases-repetition : goal.decreases-repetition
decreases-repetition l = 5 * l.room + 2

abbrev pub decreases-attempt : goal.decreases-attempt
decreases-attempt l = 5 * l.room + 2

abbrev pub decreases-statement : goal.decreases-statement
decreases-statement l = 5 * l.room + 3

abbrev pub decreases-statements : goal.decreases-statements
decreases-statements l = 5 * l.room + 4

abbrev pub invariant-statements-list : goal.invariant-statements-list
invariant-statements-list l = Going (Repeated IsStatement) behind_statements l.room l.tokens (Repeated IsStatement) (λ xs. l.found ++ xs) l.room l.rest

abbrev pub decreases-statements-list : goal.decreases-statements-list
decreases-statements-list l = length l.rest
