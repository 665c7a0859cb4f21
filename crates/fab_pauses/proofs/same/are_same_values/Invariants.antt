use Rattle.std.proofs.Common.{◌≡◌, length}
use Rattle.fab_pauses.proofs.same.are_same_values.Given as goal

abbrev pub invariant-values : goal.invariant-values
invariant-values l = record { there : l.left ≡ l.right → l.a ≡ l.b; back : l.a ≡ l.b → l.left ≡ l.right }

abbrev pub decreases-values : goal.decreases-values
decreases-values l = length l.left
