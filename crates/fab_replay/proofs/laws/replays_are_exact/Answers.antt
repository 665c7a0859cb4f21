use Rattle.fab_replay.proofs.Exact.{barred, one_answer}
use Rattle.fab_replay.proofs.laws.replays_are_exact.Goals as goal

pub returns-clause-one : goal.returns-clause-one
returns-clause-one c = one_answer

pub returns-clause-barred : goal.returns-clause-barred
returns-clause-barred c = barred
