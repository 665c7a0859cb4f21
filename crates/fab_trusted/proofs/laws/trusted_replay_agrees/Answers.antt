use Rattle.fab_trusted.proofs.Replays.{agrees, outside_agrees}
use Rattle.fab_trusted.proofs.laws.trusted_replay_agrees.Goals as goal

pub returns-clause-agrees : goal.returns-clause-agrees
returns-clause-agrees c = agrees

pub returns-clause-outside : goal.returns-clause-outside
returns-clause-outside c = outside_agrees
