use Rattle.fab_shapes.proofs.Objects.{given_there}
use Rattle.fab_shapes.proofs.laws.requests_there.Goals as goal

pub returns : goal.returns
returns c = given_there
