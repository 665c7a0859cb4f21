use Rattle.std.proofs.Common.{◌≡◌, take}
use Rattle.fab_snap.proofs.write_set.copies.Given as goal

abbrev pub invariant-loop-leaf : goal.invariant-loop-leaf
invariant-loop-leaf l = l.copies ≡ take l.leaf-index l.leaves
