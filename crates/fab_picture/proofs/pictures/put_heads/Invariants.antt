use Rattle.std.proofs.Common.{◌≡◌, ◌++◌, length}
use Rattle.fab_picture.specs.Picture.{heads}
use Rattle.fab_picture.proofs.pictures.put_heads.Given as goal

abbrev pub invariant-heads : goal.invariant-heads
invariant-heads l = l.out ++ heads l.rest ≡ l.fn.out ++ heads l.principals

abbrev pub decreases-heads : goal.decreases-heads
decreases-heads l = length l.rest
