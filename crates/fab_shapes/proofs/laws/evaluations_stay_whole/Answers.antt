use Rattle.fab_shapes.proofs.Courses.{at_end, shaped_at_end}
use Rattle.fab_shapes.proofs.laws.evaluations_stay_whole.Goals as goal

pub returns : goal.returns
returns c = record {
  found = λ s. (at_end s).0;
  closed = λ s. (at_end s).1;
  shaped = shaped_at_end;
}
