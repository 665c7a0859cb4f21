use Rattle.fab_named.proofs.Named.{have_words}
use Rattle.fab_named.proofs.laws.names_are_words.Goals as goal

pub returns : goal.returns
returns c = λ text ts s cut is. have_words cut is
