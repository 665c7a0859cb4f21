use Rattle.fab_shadow.proofs.Runs.{isolated_alike}
use Rattle.fab_shadow.proofs.laws.are_isolated_alike.Goals as goal

pub returns : goal.returns
returns c = isolated_alike
