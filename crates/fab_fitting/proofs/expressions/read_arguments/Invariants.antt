use Rattle.std.proofs.Common.{take}
use Rattle.std.specs.List.{flat_map}
use Rattle.fab_settings.specs.Numbers.{AllFit, in_expression}
use Rattle.fab_fitting.proofs.expressions.read_arguments.Given as goal

abbrev pub invariant-loop-argument : goal.invariant-loop-argument
invariant-loop-argument l = AllFit (flat_map in_expression (take l.argument-index l.arguments))
