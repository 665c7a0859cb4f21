use Rattle.std.proofs.Common.{◌≡◌, ◌++◌, length}
use Rattle.fab_tree.specs.Print.{digits_of}
use Rattle.fab_print.proofs.piece.put_digits.Given as goal

abbrev pub invariant-digits : goal.invariant-digits
invariant-digits l = l.out ++ digits_of l.rest ≡ l.fn.out ++ digits_of l.bytes

abbrev pub decreases-digits : goal.decreases-digits
decreases-digits l = length l.rest
