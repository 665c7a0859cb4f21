use Rattle.fab_holes.proofs.Solving.{numbered}
use Rattle.fab_holes.proofs.laws.filling_is_renaming.Goals as goal

pub returns : goal.returns
returns c = λ start choice named is. numbered start named choice is
