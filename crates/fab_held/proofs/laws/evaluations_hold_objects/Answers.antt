use Rattle.fab_held.proofs.Courses.{held_at_end}
use Rattle.fab_held.proofs.laws.evaluations_hold_objects.Goals as goal

pub returns : goal.returns
returns c = held_at_end
