use Rattle.fab_lexer.proofs.TokenLists.{one_list}
use Rattle.fab_lexer.proofs.laws.tokens_are_one_list.Goals as goal

pub returns : goal.returns
returns c at bytes ts us = one_list
