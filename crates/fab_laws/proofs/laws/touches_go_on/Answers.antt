use Rattle.fab_laws.proofs.Locality.{goes_on}
use Rattle.fab_laws.proofs.laws.touches_go_on.Goals as goal

pub returns : goal.returns
returns c = λ program request tid fuel few many. goes_on few many program request tid fuel
