use Rattle.fab_fewer.proofs.Fewer.{does_the_same}
use Rattle.fab_fewer.proofs.laws.maps_agree.Goals as goal

pub returns : goal.returns
returns c = does_the_same
