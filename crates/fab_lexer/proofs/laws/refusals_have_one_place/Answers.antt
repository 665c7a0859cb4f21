use Rattle.fab_lexer.proofs.TokenLists.{one_place}
use Rattle.fab_lexer.proofs.laws.refusals_have_one_place.Goals as goal

pub returns : goal.returns
returns c = one_place
