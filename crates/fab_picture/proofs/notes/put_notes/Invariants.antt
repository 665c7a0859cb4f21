use Rattle.std.proofs.Common.{◌≡◌, ◌++◌, [], take, drop}
use Rattle.fab_picture.specs.Ends.{notes}
use Rattle.fab_picture.proofs.notes.put_notes.Given as goal

abbrev pub invariant-loop-index : goal.invariant-loop-index
invariant-loop-index l = l.out ++ notes l.first (take l.index l.feet) (drop l.index l.feet) ≡ l.fn.out ++ notes l.first [] l.feet
