use Rattle.std.proofs.Common.{◌≡◌, ◌++◌, drop, map}
use Rattle.fab_language.specs.MethodNumbers.{in_turn, operand_of}
use Rattle.fab_numbers.proofs.expressions.+expression.Given as goal

abbrev pub invariant-numbered_operands-loop-other : goal.invariant-numbered_operands-loop-other
invariant-numbered_operands-loop-other l =
    let rest = in_turn (map (operand_of l.scope.tables.now l.scope.locals) (drop l.other-index l.others)) l.sites in
    let whole = in_turn (map (operand_of l.scope.tables.now l.scope.locals) l.others) l.initial.sites in
    record {
      made : l.made ++ rest.0 ≡ whole.0;
      next : rest.1 ≡ whole.1;
    }
