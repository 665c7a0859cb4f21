use Rattle.fab_journal.proofs.Fronts.{crash_law}
use Rattle.fab_journal.proofs.laws.crash_leaves_whole_records.Goals as goal

pub returns : goal.returns
returns c = crash_law
