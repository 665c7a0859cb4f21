use Rattle.fab_replay.proofs.Viewing.{public_viewed}
use Rattle.fab_replay.proofs.laws.views_are_public.Goals as goal

pub returns : goal.returns
returns c = public_viewed
