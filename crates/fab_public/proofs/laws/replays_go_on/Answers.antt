use Rattle.fab_public.proofs.Fronts.{goes_on}
use Rattle.fab_release.specs.Replay.{at_start}
use Rattle.fab_public.proofs.laws.replays_go_on.Goals as goal

pub returns : goal.returns
returns c = λ sight P xs ys n d. goes_on sight P n d (at_start sight P) xs ys
