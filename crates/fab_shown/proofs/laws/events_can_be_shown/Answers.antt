use Rattle.fab_named.proofs.Named.{have_bytes}
use Rattle.fab_shown.proofs.Events.{events_are_in}
use Rattle.fab_shown.proofs.Shown.{receivers}
use Rattle.fab_shown.proofs.laws.events_can_be_shown.Goals as goal

pub returns : goal.returns
returns c = λ text ts s rights moves cut is a run. events_are_in s rights a (have_bytes cut is) (receivers s a.named) moves run
