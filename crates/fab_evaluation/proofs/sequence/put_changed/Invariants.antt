use Rattle.std.proofs.Common.{◌≡◌}
use Rattle.fab_base.specs.FlatMap.{put_all}
use Rattle.fab_evaluation.proofs.sequence.put_changed.Given as goal

abbrev pub invariant-changed : goal.invariant-changed
invariant-changed l = l.map ≡ put_all l.yielded l.initial.map
