use Rattle.fab_shown.proofs.Outcomes.{outcomes_are_in}
use Rattle.fab_shown.proofs.laws.outcomes_can_be_shown.Goals as goal

pub returns : goal.returns
returns c = λ s rights moves a run. outcomes_are_in s rights a moves run
