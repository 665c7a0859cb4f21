use Rattle.fab_protocol.proofs.ShelfKept.{shelf_goes_on}
use Rattle.fab_protocol.proofs.laws.folds_go_on.Goals as goal

pub returns : goal.returns
returns c = shelf_goes_on
