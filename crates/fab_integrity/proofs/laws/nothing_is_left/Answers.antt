use Rattle.fab_integrity.proofs.Over.{over_is_done}
use Rattle.fab_integrity.proofs.laws.nothing_is_left.Goals as goal

pub returns : goal.returns
returns c = over_is_done
