use Rattle.std.proofs.Common.{◌≡◌, map, take}
use Rattle.fab_language.specs.MethodNumbers.{numbered_local}
use Rattle.fab_numbers.proofs.methods.numbered_locals.Given as goal

abbrev pub invariant-loop-local : goal.invariant-loop-local
invariant-loop-local l = l.made ≡ map (numbered_local l.tables) (take l.local-index l.locals)
