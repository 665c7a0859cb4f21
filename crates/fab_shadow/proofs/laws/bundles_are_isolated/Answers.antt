use Rattle.fab_shadow.proofs.Runs.{bundles_isolated}
use Rattle.fab_shadow.proofs.laws.bundles_are_isolated.Goals as goal

pub returns : goal.returns
returns c = bundles_isolated
