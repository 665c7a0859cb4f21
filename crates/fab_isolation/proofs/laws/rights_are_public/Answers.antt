use Rattle.fab_isolation.proofs.Shared.{rights_are_public}
use Rattle.fab_isolation.proofs.laws.rights_are_public.Goals as goal

pub returns : goal.returns
returns c = rights_are_public
