use Rattle.std.proofs.Common.{◌≡◌, take}
use Rattle.fab_faults.proofs.walk.parameters_of.Given as goal

abbrev pub invariant-loop-parameter : goal.invariant-loop-parameter
invariant-loop-parameter l = l.known ≡ take l.parameter-index l.parameter-items
