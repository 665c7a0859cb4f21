use Rattle.std.proofs.Common.{◌≡◌}
use Rattle.fab_holes.specs.Chosen.{put_locals}
use Rattle.fab_infer.proofs.choice.with_labels.Given as goal

abbrev pub invariant-locals : goal.invariant-locals
invariant-locals l = put_locals l.count l.yielded l.labels ≡ (l.out, l.rest)
