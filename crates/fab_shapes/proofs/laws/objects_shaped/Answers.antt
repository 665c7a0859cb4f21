use Rattle.fab_shapes.proofs.Objects.{objects_have_shapes}
use Rattle.fab_shapes.proofs.laws.objects_shaped.Goals as goal

pub returns : goal.returns
returns c = objects_have_shapes
