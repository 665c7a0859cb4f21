use Rattle.std.proofs.Common.{◌≡◌, length}
use Rattle.fab_holes.specs.Holes.{has_holes}
use Rattle.fab_infer.specs.Fill.{of_labels}
use Rattle.fab_infer.proofs.declared.has_holes.Given as goal

abbrev pub invariant-labels : goal.invariant-labels
invariant-labels l = has_holes (of_labels l.rest) ≡ has_holes (of_labels l.labels)

abbrev pub decreases-labels : goal.decreases-labels
decreases-labels l = length l.rest
