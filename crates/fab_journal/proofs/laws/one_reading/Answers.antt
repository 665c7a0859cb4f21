use Rattle.fab_journal.proofs.OneReading.{one_way}
use Rattle.fab_journal.proofs.laws.one_reading.Goals as goal

pub returns : goal.returns
returns c = λ bytes es fs m n. one_way bytes es fs m n
