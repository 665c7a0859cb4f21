use Rattle.fab_isolation.proofs.Followed.{followed}
use Rattle.fab_isolation.proofs.laws.bundles_are_followed.Goals as goal

pub returns : goal.returns
returns c = followed
