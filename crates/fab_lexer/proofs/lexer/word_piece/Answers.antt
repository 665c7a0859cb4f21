use Rattle.fab_lexer.proofs.PieceLemmas.{word_is_text}
use Rattle.fab_lexer.proofs.lexer.word_piece.Goals as goal

pub returns-in_default : goal.returns-in_default
returns-in_default c = absurd (c.in_default.ensures.cases.0 (word_is_text c.args.word.now c.requires))
