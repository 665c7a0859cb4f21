use Rattle.std.proofs.Common.{length}
use Rattle.fab_lexer.proofs.QuotedLemmas.{Valuing}
use Rattle.fab_lexer.proofs.quoted.values_of.Given as goal

abbrev pub invariant-pairs : goal.invariant-pairs
invariant-pairs l = Valuing l.digits l.rest l.values

abbrev pub decreases-pairs : goal.decreases-pairs
decreases-pairs l = length l.rest
