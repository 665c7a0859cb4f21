use Rattle.fab_isolation.proofs.Shared.{sights_are_public}
use Rattle.fab_isolation.proofs.laws.sights_are_public.Goals as goal

pub returns : goal.returns
returns c = sights_are_public
