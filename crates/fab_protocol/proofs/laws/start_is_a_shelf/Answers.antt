use Rattle.fab_protocol.proofs.ShelfKept.{start_is}
use Rattle.fab_protocol.proofs.laws.start_is_a_shelf.Goals as goal

pub returns : goal.returns
returns c = start_is
