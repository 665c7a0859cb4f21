use Rattle.fab_holes.proofs.Solving.{meets_what_is_owed}
use Rattle.fab_holes.proofs.laws.solutions_meet_what_is_owed.Goals as goal

pub returns : goal.returns
returns c = λ start choice named is. meets_what_is_owed start named choice is
