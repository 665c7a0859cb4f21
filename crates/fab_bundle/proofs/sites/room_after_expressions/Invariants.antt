use Rattle.std.proofs.Common.{◌≡◌, ◌+◌, drop, length}
use Rattle.fab_tree.specs.Sites.{in_expressions}
use Rattle.fab_bundle.proofs.sites.room_after_expressions.Given as goal

abbrev pub invariant-loop-expression : goal.invariant-loop-expression
invariant-loop-expression l =
    l.left + length (in_expressions l.expressions) ≡ l.initial.left + length (in_expressions (drop l.expression-index l.expressions))
