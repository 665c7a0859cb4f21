use Rattle.std.proofs.Common.{◌+◌, ◌*◌, ◌++◌, ℕ, length}
use Rattle.fab_tree.specs.declared.expression.Level.{Level}
use Rattle.fab_tree.specs.declared.expression.Level.TheVariants as level
use Rattle.fab_tree.specs.Expressions.{IsOthers}
use Rattle.fab_reading.proofs.Rules.{Going}
use Rattle.fab_expressions.specs.Pieces.{after_chain}
use Rattle.fab_expressions.proofs.expressions.+expression.Given as goal

-- how many readers stand below those of a level
abbrev below : Level → ℕ
below level.Product = 3
below level.Sum = 6
below level.And = 10
below level.Or = 13

abbrev pub decreases-brackets : goal.decreases-brackets
decreases-brackets l = 17 * l.room

abbrev pub decreases-primary : goal.decreases-primary
decreases-primary l = 17 * l.room + 1

abbrev pub decreases-unary : goal.decreases-unary
decreases-unary l = 17 * l.room + 2

abbrev pub decreases-operand : goal.decreases-operand
decreases-operand l = 17 * l.room + below l.level

abbrev pub decreases-others : goal.decreases-others
decreases-others l = 17 * l.room + (below l.level + 1)

abbrev pub decreases-chain : goal.decreases-chain
decreases-chain l = 17 * l.room + (below l.level + 2)

abbrev pub decreases-compared : goal.decreases-compared
decreases-compared l = 17 * l.room + 9

abbrev pub decreases-expression : goal.decreases-expression
decreases-expression l = 17 * l.room + 16

abbrev pub invariant-others-list : goal.invariant-others-list
invariant-others-list l = Going (IsOthers l.level) (after_chain l.level) l.room l.tokens (IsOthers l.level) (λ xs. l.found ++ xs) l.room l.rest

abbrev pub decreases-others-list : goal.decreases-others-list
decreases-others-list l = length l.rest
