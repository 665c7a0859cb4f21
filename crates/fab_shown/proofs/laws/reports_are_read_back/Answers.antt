use Rattle.fab_shown.proofs.Shown.{read_back}
use Rattle.fab_shown.proofs.laws.reports_are_read_back.Goals as goal

pub returns : goal.returns
returns c = λ text ts s rights moves cut is a run. read_back text ts s rights moves cut is a run
