use Rattle.fab_protocol.proofs.ShelfKept.{hears_keeps}
use Rattle.fab_protocol.proofs.laws.messages_keep_shelves.Goals as goal

pub returns : goal.returns
returns c = hears_keeps
