use Rattle.fab_wire.proofs.MessageLaws.{can_be_encoded}
use Rattle.fab_wire.proofs.laws.spelled_messages_can_be_encoded.Goals as goal

pub returns : goal.returns
returns c = can_be_encoded
