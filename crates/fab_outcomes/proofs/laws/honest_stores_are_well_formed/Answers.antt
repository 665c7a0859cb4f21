use Rattle.fab_outcomes.proofs.WellFormed.{stores_are_well_formed}
use Rattle.fab_outcomes.proofs.laws.honest_stores_are_well_formed.Goals as goal

pub returns : goal.returns
returns c = stores_are_well_formed
