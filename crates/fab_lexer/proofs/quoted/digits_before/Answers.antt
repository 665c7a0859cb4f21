use Rattle.std.proofs.Common.{take, ap, ◌∙◌}
use Rattle.std.proofs.lemmas.List.Folds.{length-prefix_len}
use Rattle.fab_base.specs.Tokens.{is_hex_digit}
use Rattle.fab_lexer.proofs.quoted.digits_before.Goals as goal

pub returns : goal.returns
returns c = ap (λ n. take n c.args.bytes.now) (c.digits_len-len.ensures.value ∙ length-prefix_len is_hex_digit c.args.bytes.now)
