use Rattle.std.proofs.Common.{◌≡◌, drop}
use Rattle.std.specs.List.{flat_map}
use Rattle.fab_language.specs.Unknown.{in_expression}
use Rattle.fab_rules.specs.First.{first_from}
use Rattle.fab_spaces.proofs.unknown.expressions.+expression.Given as goal

abbrev pub invariant-in_operands-loop-operand : goal.invariant-in_operands-loop-operand
invariant-in_operands-loop-operand l =
    first_from l.first (flat_map (λ o. in_expression l.tables l.known o.operand) (drop l.operand-index l.operands))
    ≡ first_from l.initial.first (flat_map (λ o. in_expression l.tables l.known o.operand) l.operands)
