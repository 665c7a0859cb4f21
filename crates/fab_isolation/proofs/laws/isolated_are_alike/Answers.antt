use Rattle.fab_isolation.proofs.Alike.{alike}
use Rattle.fab_isolation.proofs.laws.isolated_are_alike.Goals as goal

pub returns : goal.returns
returns c = alike
