use Rattle.std.proofs.Common.{◌-◌, length}
use Rattle.fab_lexer.proofs.Lexing.{Lexing}
use Rattle.fab_lexer.proofs.lexer.tokens.Given as goal

abbrev pub invariant-text : goal.invariant-text
invariant-text l = Lexing l.bytes l.found l.at

abbrev pub decreases-text : goal.decreases-text
decreases-text l = length l.bytes - l.at
