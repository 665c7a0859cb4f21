use Rattle.fab_shown.proofs.Held.{held_in}
use Rattle.fab_shown.proofs.laws.held_can_be_shown.Goals as goal

pub returns : goal.returns
returns c = λ s rights moves a run. held_in s rights a moves run
