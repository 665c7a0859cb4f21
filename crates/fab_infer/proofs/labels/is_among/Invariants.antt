use Rattle.std.proofs.Common.{◌≡◌, ◌==◌, length}
use Rattle.std.specs.List.{list_any}
use Rattle.fab_infer.proofs.labels.is_among.Given as goal

abbrev pub invariant-labels : goal.invariant-labels
invariant-labels l = list_any (λ k. k == l.label) l.rest ≡ list_any (λ k. k == l.label) l.labels

abbrev pub decreases-labels : goal.decreases-labels
decreases-labels l = length l.rest
