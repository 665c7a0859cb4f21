use Rattle.std.proofs.Common.{◌≡◌, length}
use Rattle.fab_protocol.specs.Versions.{version_of}
use Rattle.fab_run.proofs.follower.version_in.Given as goal

abbrev pub invariant-loop-row : goal.invariant-loop-row
invariant-loop-row l = version_of l.rest l.oid ≡ version_of l.answers l.oid

abbrev pub decreases-loop-row : goal.decreases-loop-row
decreases-loop-row l = length l.rest
