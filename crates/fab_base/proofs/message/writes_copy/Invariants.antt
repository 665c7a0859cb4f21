use Rattle.std.proofs.Common.{◌≡◌, take}
use Rattle.fab_base.proofs.message.writes_copy.Given as goal

abbrev pub invariant-loop-write : goal.invariant-loop-write
invariant-loop-write l = l.copies ≡ take l.write-index l.writes
