use Rattle.fab_wire.proofs.WholeLaws.{one_message}
use Rattle.fab_wire.proofs.laws.one_message_a_spelling.Goals as goal

pub returns : goal.returns
returns c = one_message
