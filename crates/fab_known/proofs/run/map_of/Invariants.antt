use Rattle.std.proofs.Common.{◌≡◌, drop}
use Rattle.fab_base.specs.FlatMap.{map_of, put_all}
use Rattle.fab_protocol.specs.Versions.{objects_of}
use Rattle.fab_known.proofs.run.map_of.Given as goal

abbrev pub invariant-loop-row : goal.invariant-loop-row
invariant-loop-row l = put_all (objects_of (drop l.row-index l.known)) l.objects ≡ map_of (objects_of l.known)
