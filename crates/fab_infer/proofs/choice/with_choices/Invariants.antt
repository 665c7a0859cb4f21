use Rattle.std.proofs.Common.{◌≡◌}
use Rattle.fab_holes.specs.Chosen.{put_methods}
use Rattle.fab_infer.proofs.choice.with_choices.Given as goal

abbrev pub invariant-methods : goal.invariant-methods
invariant-methods l = put_methods l.count l.yielded l.labels ≡ (l.out, l.rest)
