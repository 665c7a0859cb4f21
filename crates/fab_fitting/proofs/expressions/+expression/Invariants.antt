use Rattle.std.proofs.Common.{take}
use Rattle.std.specs.List.{flat_map}
use Rattle.fab_settings.specs.Numbers.{AllFit}
use Rattle.fab_fitting.proofs.Forms.{in_operand}
use Rattle.fab_fitting.proofs.expressions.+expression.Given as goal

abbrev pub invariant-read_operands-loop-other : goal.invariant-read_operands-loop-other
invariant-read_operands-loop-other l = AllFit (flat_map in_operand (take l.other-index l.others))
