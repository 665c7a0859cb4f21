use Rattle.std.proofs.Common.{◌≡◌, take}
use Rattle.fab_base.proofs.message.creates_copy.Given as goal

abbrev pub invariant-loop-create : goal.invariant-loop-create
invariant-loop-create l = l.copies ≡ take l.create-index l.creates
