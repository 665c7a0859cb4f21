use Rattle.fab_laws.proofs.Placed.{meant_passes}
use Rattle.fab_laws.proofs.laws.names_pass_as_before.Goals as goal

pub returns : goal.returns
returns c = λ p program known request tid fuel makes. meant_passes p program tid makes known request fuel
