use Rattle.fab_shapes.proofs.Objects.{requests_have_kinds}
use Rattle.fab_shapes.proofs.laws.requests_fit.Goals as goal

pub returns : goal.returns
returns c = requests_have_kinds
