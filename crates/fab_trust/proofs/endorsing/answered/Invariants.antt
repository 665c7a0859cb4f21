use Rattle.std.proofs.Common.{◌≡◌, length}
use Rattle.fab_base.specs.FlatMap.{map_of, put_all}
use Rattle.fab_protocol.specs.Versions.{objects_of}
use Rattle.fab_trust.proofs.endorsing.answered.Given as goal

abbrev pub invariant-loop-row : goal.invariant-loop-row
invariant-loop-row l = put_all (objects_of l.rest) l.map ≡ map_of (objects_of l.answers)

abbrev pub decreases-loop-row : goal.decreases-loop-row
decreases-loop-row l = length l.rest
