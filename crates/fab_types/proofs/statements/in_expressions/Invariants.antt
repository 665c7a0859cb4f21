use Rattle.std.proofs.Common.{◌≡◌, drop}
use Rattle.std.specs.List.{flat_map}
use Rattle.fab_language.specs.Types.{in_expression}
use Rattle.fab_rules.specs.First.{first_from}
use Rattle.fab_types.proofs.statements.in_expressions.Given as goal

abbrev pub invariant-loop-expression : goal.invariant-loop-expression
invariant-loop-expression l =
    first_from l.first (flat_map (in_expression l.tables l.known) (drop l.expression-index l.expressions)) ≡ first_from l.initial.first (flat_map (in_expression l.tables l.known) l.expressions)
