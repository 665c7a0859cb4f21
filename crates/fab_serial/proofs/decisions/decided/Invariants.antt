use Rattle.std.proofs.Common.{◌≡◌, ◌++◌, length}
use Rattle.std.specs.List.{flat_map}
use Rattle.fab_serial.specs.Replays.{commits_at}
use Rattle.fab_serial.proofs.decisions.decided.Given as goal

abbrev pub invariant-loop-logged : goal.invariant-loop-logged
invariant-loop-logged l = l.commits.items ++ flat_map commits_at l.rest ≡ flat_map commits_at l.log

abbrev pub decreases-loop-logged : goal.decreases-loop-logged
decreases-loop-logged l = length l.rest
