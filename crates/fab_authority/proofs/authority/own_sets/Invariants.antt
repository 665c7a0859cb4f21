use Rattle.std.proofs.Common.{take}
use Rattle.fab_authority.specs.Authority.{AreOwn}
use Rattle.fab_authority.proofs.authority.own_sets.Given as goal

abbrev pub invariant-loop-method : goal.invariant-loop-method
invariant-loop-method l = AreOwn (take l.method-index l.methods) l.sets.items
