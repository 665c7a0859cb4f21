use Rattle.std.proofs.Common.{take, ap, ◌∙◌}
use Rattle.std.proofs.lemmas.List.Folds.{length-prefix_len}
use Rattle.fab_base.specs.Tokens.{is_word_byte}
use Rattle.fab_lexer.proofs.lexer.word_before.Goals as goal

pub returns : goal.returns
returns c = ap (λ n. take n c.args.bytes.now) (c.word_len-len.ensures.value ∙ length-prefix_len is_word_byte c.args.bytes.now)
