use Rattle.fab_shapes.proofs.Objects.{closed}
use Rattle.fab_shapes.proofs.laws.objects_closed.Goals as goal

pub returns : goal.returns
returns c = closed
