use Rattle.std.proofs.Common.{◌≡◌, ◌++◌, List, map, drop}
use Rattle.fab_tree.specs.Print.{Ink, text_of, operands}
use Rattle.fab_print.specs.Adding.{beside}
use Rattle.fab_print.proofs.expression.+expression.Given as goal

abbrev pub invariant-put_operands-operands : goal.invariant-put_operands-operands
invariant-put_operands-operands l = (more : List Ink) → l.out ++ text_of (operands (map beside (drop l.operand-index l.others)) more) ≡ l.fn.out ++ text_of (operands (map beside l.others) more)
