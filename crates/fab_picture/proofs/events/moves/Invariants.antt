use Rattle.std.proofs.Common.{◌≡◌, ◌++◌, length}
use Rattle.fab_picture.specs.Moves.{moves}
use Rattle.fab_picture.proofs.events.moves.Given as goal

abbrev pub invariant-lines : goal.invariant-lines
invariant-lines l = l.events ++ moves l.start l.rest ≡ moves l.start l.lines

abbrev pub decreases-lines : goal.decreases-lines
decreases-lines l = length l.rest
