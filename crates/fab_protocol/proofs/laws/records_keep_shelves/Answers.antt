use Rattle.fab_protocol.proofs.ShelfKept.{shelf_keeps}
use Rattle.fab_protocol.proofs.laws.records_keep_shelves.Goals as goal

pub returns : goal.returns
returns c = shelf_keeps
