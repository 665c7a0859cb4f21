use Rattle.std.proofs.Common.{◌≡◌, ◌++◌, drop}
use Rattle.fab_nested.specs.Effects.{objects_at}
use Rattle.fab_nested.proofs.copies.put_all_found.Given as goal

abbrev pub invariant-loop-name : goal.invariant-loop-name
invariant-loop-name l = l.out ++ objects_at l.map (drop l.name-index l.names) ≡ l.initial.out ++ objects_at l.map l.names
