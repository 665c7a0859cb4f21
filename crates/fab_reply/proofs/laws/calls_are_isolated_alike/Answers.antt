use Rattle.fab_reply.proofs.Alike.{calls_alike}
use Rattle.fab_reply.proofs.laws.calls_are_isolated_alike.Goals as goal

pub returns : goal.returns
returns c = calls_alike
