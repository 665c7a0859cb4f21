use Rattle.std.proofs.Common.{◌≡◌, map, take}
use Rattle.fab_protocol.specs.Versions.{risen, version_of}
use Rattle.fab_run.proofs.follower.write_set_of.Given as goal

abbrev pub invariant-loop-row : goal.invariant-loop-row
invariant-loop-row l = l.leaves ≡ map (λ row. (row.0, risen (version_of l.answers row.0), row.1)) (take l.row-index l.left)
