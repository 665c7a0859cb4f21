use Rattle.fab_shadow.proofs.Runs.{isolation}
use Rattle.fab_shadow.proofs.laws.isolation.Goals as goal

pub returns : goal.returns
returns c = isolation
