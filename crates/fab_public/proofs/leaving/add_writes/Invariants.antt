use Rattle.std.proofs.Common.{◌≡◌, ◌++◌, map, take}
use Rattle.fab_protocol.specs.Versions.{raised}
use Rattle.fab_public.proofs.leaving.add_writes.Given as goal

abbrev pub invariant-loop-write : goal.invariant-loop-write
invariant-loop-write l = l.rows ≡ l.initial.rows ++ map raised (take l.write-index l.writes)
