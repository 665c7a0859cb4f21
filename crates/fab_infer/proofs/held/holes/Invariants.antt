use Rattle.std.proofs.Common.{◌≡◌, ◌++◌, drop}
use Rattle.std.specs.List.{flat_map}
use Rattle.fab_holes.specs.Holes.{holes_in}
use Rattle.fab_infer.specs.Fill.{of_labels}
use Rattle.fab_infer.proofs.held.holes.Given as goal

abbrev pub invariant-loop-method : goal.invariant-loop-method
invariant-loop-method l = l.out ++ flat_map (holes_in (of_labels l.declared.labels.now)) (drop l.method-index l.method-items) ≡ flat_map (holes_in (of_labels l.declared.labels.now)) l.method-items
