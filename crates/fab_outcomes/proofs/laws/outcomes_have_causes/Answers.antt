use Rattle.fab_outcomes.proofs.Having.{have_causes}
use Rattle.fab_outcomes.proofs.laws.outcomes_have_causes.Goals as goal

pub returns : goal.returns
returns c = have_causes
