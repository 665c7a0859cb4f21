use Rattle.std.proofs.Common.{◌≡◌, take}
use Rattle.fab_rules.specs.Known.{shown}
use Rattle.fab_spaces.proofs.doubled.locals.locals_of.Given as goal

abbrev pub invariant-loop-parameter : goal.invariant-loop-parameter
invariant-loop-parameter l = shown l.locals.items ≡ take l.parameter-index l.parameter-items
