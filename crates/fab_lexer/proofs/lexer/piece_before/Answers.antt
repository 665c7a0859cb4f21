use Rattle.std.proofs.Common.{sym, subst}
use Rattle.std.specs.List.{AllPass}
use Rattle.fab_base.specs.Tokens.{is_word_byte}
use Rattle.fab_lexer.proofs.PieceLemmas.{word_passes}
use Rattle.fab_lexer.proofs.lexer.piece_before.Goals as goal

pub word_piece-requires : goal.word_piece-requires
word_piece-requires c = subst (AllPass is_word_byte) (sym c.word_before.ensures) (word_passes c.args.bytes.now)
