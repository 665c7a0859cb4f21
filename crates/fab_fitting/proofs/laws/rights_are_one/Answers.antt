use Rattle.fab_fitting.proofs.Rights.{one_rights}
use Rattle.fab_fitting.proofs.laws.rights_are_one.Goals as goal

pub returns : goal.returns
returns c = one_rights
