use Rattle.std.proofs.Common.{◌≡◌, take, map}
use Rattle.fab_protocol.specs.Versions.{version_of}
use Rattle.fab_worker.proofs.told.with_versions.Given as goal

abbrev pub invariant-loop-touch : goal.invariant-loop-touch
invariant-loop-touch l = l.told ≡ map (λ t. (t.0, t.1, version_of l.answers t.1)) (take l.touch-index l.touches)
