use Rattle.std.proofs.Common.{◌≡◌, take}
use Rattle.fab_nested.proofs.names.table_of.Given as goal

abbrev pub invariant-loop-name : goal.invariant-loop-name
invariant-loop-name g l = l.set.keys ≡ take l.name-index l.names
