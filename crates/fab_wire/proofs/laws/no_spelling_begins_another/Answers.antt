use Rattle.fab_wire.proofs.WholeLaws.{nothing_follows}
use Rattle.fab_wire.proofs.laws.no_spelling_begins_another.Goals as goal

pub returns : goal.returns
returns c = nothing_follows
