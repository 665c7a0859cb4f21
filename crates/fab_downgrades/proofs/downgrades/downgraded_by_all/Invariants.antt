use Rattle.std.proofs.Common.{◌≡◌, ◌++◌, drop}
use Rattle.std.specs.List.{flat_map}
use Rattle.fab_downgrades.specs.Downgraded.{downgraded_by}
use Rattle.fab_downgrades.proofs.downgrades.downgraded_by_all.Given as goal

abbrev pub invariant-loop-method : goal.invariant-loop-method
invariant-loop-method l = l.out ++ flat_map downgraded_by (drop l.method-index l.methods) ≡ flat_map downgraded_by l.methods
