use Rattle.fab_journal.proofs.Fronts.{cut_law}
use Rattle.fab_journal.proofs.laws.cut_keeps_synced_records.Goals as goal

pub returns : goal.returns
returns c = cut_law
