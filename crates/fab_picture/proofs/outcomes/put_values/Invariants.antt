use Rattle.std.proofs.Common.{◌≡◌, ◌++◌, length}
use Rattle.fab_picture.specs.Ends.{values_text}
use Rattle.fab_picture.proofs.outcomes.put_values.Given as goal

abbrev pub invariant-values : goal.invariant-values
invariant-values l = l.out ++ values_text l.start l.rest ≡ l.fn.out ++ values_text l.start l.values

abbrev pub decreases-values : goal.decreases-values
decreases-values l = length l.rest
