use Rattle.fab_fewer.proofs.InPart.{views_replay}
use Rattle.fab_fewer.proofs.laws.views_replay.Goals as goal

pub returns : goal.returns
returns c = views_replay
