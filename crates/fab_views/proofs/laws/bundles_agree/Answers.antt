use Rattle.fab_views.proofs.Bundles.{agrees}
use Rattle.fab_views.proofs.laws.bundles_agree.Goals as goal

pub returns : goal.returns
returns c = agrees
