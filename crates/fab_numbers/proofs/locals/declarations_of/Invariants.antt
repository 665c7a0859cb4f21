use Rattle.std.proofs.Common.{◌≡◌, take}
use Rattle.fab_numbers.proofs.locals.declarations_of.Given as goal

abbrev pub invariant-loop-parameter : goal.invariant-loop-parameter
invariant-loop-parameter l = l.locals.items ≡ take l.parameter-index l.parameter-items
