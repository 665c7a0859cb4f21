use Rattle.std.proofs.Common.{◌≡◌, length}
use Rattle.fab_labelling.specs.Obligations.{under}
use Rattle.fab_infer.proofs.labels.inside.Given as goal

abbrev pub invariant-labels : goal.invariant-labels
invariant-labels l = under l.found l.rest ≡ under l.initial.found l.labels

abbrev pub decreases-labels : goal.decreases-labels
decreases-labels l = length l.rest
