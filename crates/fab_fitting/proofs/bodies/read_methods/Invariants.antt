use Rattle.std.proofs.Common.{take}
use Rattle.std.specs.List.{flat_map}
use Rattle.fab_settings.specs.Numbers.{AllFit, in_method}
use Rattle.fab_fitting.proofs.bodies.read_methods.Given as goal

abbrev pub invariant-loop-method : goal.invariant-loop-method
invariant-loop-method l = AllFit (flat_map in_method (take l.method-index l.methods))
