use Rattle.std.proofs.Common.{◌≡◌, length}
use Rattle.fab_replay.proofs.Scheduled.{SoFar}
use Rattle.fab_replay.proofs.running.run.Given as goal

abbrev pub invariant-events : goal.invariant-events
invariant-events g l = SoFar l.fn.core l.core l.rest l.number × (l.evaluators.program ≡ l.core.given.program)

abbrev pub decreases-events : goal.decreases-events
decreases-events g l = length l.rest
