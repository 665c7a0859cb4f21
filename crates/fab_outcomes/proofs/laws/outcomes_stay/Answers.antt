use Rattle.fab_outcomes.proofs.Having.{are_one, stay}
use Rattle.fab_outcomes.proofs.laws.outcomes_stay.Goals as goal

pub returns : goal.returns
returns c = record { one = are_one; stay = stay }
