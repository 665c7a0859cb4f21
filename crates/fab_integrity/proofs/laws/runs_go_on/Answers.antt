use Rattle.fab_integrity.proofs.Live.{live}
use Rattle.fab_integrity.proofs.laws.runs_go_on.Goals as goal

pub returns : goal.returns
returns c = live
