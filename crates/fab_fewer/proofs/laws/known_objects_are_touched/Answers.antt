use Rattle.fab_fewer.proofs.Fewer.{knows_all_touched}
use Rattle.fab_fewer.proofs.laws.known_objects_are_touched.Goals as goal

pub returns : goal.returns
returns c = knows_all_touched
