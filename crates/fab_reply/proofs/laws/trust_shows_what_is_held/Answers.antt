use Rattle.fab_reply.proofs.Shown.{shows_what_is_held}
use Rattle.fab_reply.proofs.laws.trust_shows_what_is_held.Goals as goal

pub returns : goal.returns
returns c = shows_what_is_held
