use Rattle.std.proofs.Common.{refl}
use Rattle.fab_base.specs.MessageSpelling.{message_bytes}
use Rattle.fab_wire.proofs.WholeLaws.{one_message}
use Rattle.fab_wire.proofs.laws.spelling_is_read_as_its_message.Goals as goal

pub returns-clause-alone : goal.returns-clause-alone
returns-clause-alone c = λ version m n is read. one_message (message_bytes version m) n m read.spelled (version, is, refl)
