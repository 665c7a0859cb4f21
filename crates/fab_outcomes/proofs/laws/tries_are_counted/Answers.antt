use Rattle.fab_outcomes.proofs.Having.{count_tries}
use Rattle.fab_outcomes.proofs.laws.tries_are_counted.Goals as goal

pub returns : goal.returns
returns c = count_tries
