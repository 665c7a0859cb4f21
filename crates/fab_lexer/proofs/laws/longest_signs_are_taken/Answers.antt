use Rattle.fab_lexer.proofs.SignLemmas.{longest_taken, begun_with}
use Rattle.fab_lexer.proofs.laws.longest_signs_are_taken.Goals as goal

pub returns : goal.returns
returns c = record { longest = longest_taken; begun = begun_with }
