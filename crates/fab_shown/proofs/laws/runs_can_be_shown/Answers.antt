use Rattle.fab_shown.proofs.Shown.{showable}
use Rattle.fab_shown.proofs.laws.runs_can_be_shown.Goals as goal

pub returns : goal.returns
returns c = λ text ts s rights moves cut is a run. showable text ts s rights moves cut is a run
