use Rattle.fab_shown.proofs.Commits.{commits_are_in}
use Rattle.fab_shown.proofs.laws.commits_can_be_shown.Goals as goal

pub returns : goal.returns
returns c = λ s rights moves a run. commits_are_in s rights a moves run
