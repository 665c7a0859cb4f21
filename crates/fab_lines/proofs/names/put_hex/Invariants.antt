use Rattle.std.proofs.Common.{◌≡◌, ◌++◌, length}
use Rattle.fab_language.specs.Words.{hex}
use Rattle.fab_lines.proofs.names.put_hex.Given as goal

abbrev pub invariant-digits : goal.invariant-digits
invariant-digits l = l.out ++ hex l.rest ≡ l.fn.out ++ hex l.bytes

abbrev pub decreases-digits : goal.decreases-digits
decreases-digits l = length l.rest
