use Rattle.std.proofs.Common.{sym, subst}
use Rattle.std.specs.List.{AllPass}
use Rattle.fab_base.specs.Tokens.{is_hex_digit}
use Rattle.fab_lexer.proofs.PieceLemmas.{digits_pass}
use Rattle.fab_lexer.proofs.quoted.quoted_before.Goals as goal

pub values_of-requires : goal.values_of-requires
values_of-requires c = subst (AllPass is_hex_digit) (sym c.digits_before-digits.ensures) (digits_pass c.args.bytes.now)
