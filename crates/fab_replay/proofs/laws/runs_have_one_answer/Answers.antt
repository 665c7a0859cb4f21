use Rattle.fab_replay.proofs.Answered.{faulty_marked, none_marked, one_of_run}
use Rattle.fab_replay.proofs.laws.runs_have_one_answer.Goals as goal

pub returns-clause-one : goal.returns-clause-one
returns-clause-one c = λ g wanted moves. one_of_run g moves wanted

pub returns-clause-none : goal.returns-clause-none
returns-clause-none c = λ g wanted moves. none_marked g moves wanted

pub returns-clause-fault : goal.returns-clause-fault
returns-clause-fault c = λ g wanted moves node bytes h. faulty_marked g moves wanted node h.0
