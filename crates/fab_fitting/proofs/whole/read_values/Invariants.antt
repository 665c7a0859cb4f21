use Rattle.std.proofs.Common.{take}
use Rattle.fab_settings.specs.Numbers.{AllFit}
use Rattle.fab_fitting.proofs.whole.read_values.Given as goal

abbrev pub invariant-loop-value : goal.invariant-loop-value
invariant-loop-value l = AllFit (take l.value-index l.values)
