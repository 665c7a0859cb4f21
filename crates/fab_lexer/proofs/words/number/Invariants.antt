use Rattle.std.proofs.Common.{◌≡◌, ◌≤◌, drop}
use Rattle.fab_base.specs.Tokens.{value_from}
use Rattle.fab_lexer.proofs.words.number.Given as goal

abbrev pub invariant-loop-digit : goal.invariant-loop-digit
invariant-loop-digit l = record {
  small : l.value ≤ 2147483648;
  same : value_from l.value (drop l.digit-index l.digits) ≡ value_from 0 l.digits;
}
