use Rattle.std.proofs.Common.{◌≡◌, ◌++◌, length}
use Rattle.fab_picture.specs.Ends.{feet}
use Rattle.fab_picture.proofs.outcomes.feet.Given as goal

abbrev pub invariant-lines : goal.invariant-lines
invariant-lines l = l.feet ++ feet l.start l.rest ≡ feet l.start l.lines

abbrev pub decreases-lines : goal.decreases-lines
decreases-lines l = length l.rest
