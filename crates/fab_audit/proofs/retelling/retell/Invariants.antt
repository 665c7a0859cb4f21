use Rattle.std.proofs.Common.{◌≡◌, length}
use Rattle.fab_audit.proofs.Retold.{SoFar}
use Rattle.fab_audit.proofs.retelling.retell.Given as goal

abbrev pub invariant-events : goal.invariant-events
invariant-events l = SoFar l.fn.core l.core l.told l.rest × (l.evaluators.program ≡ l.core.given.program)

abbrev pub decreases-events : goal.decreases-events
decreases-events l = length l.rest
