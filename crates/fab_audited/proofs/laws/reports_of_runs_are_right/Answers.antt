use Rattle.fab_audited.proofs.Right.{alone, with_journals}
use Rattle.fab_audited.proofs.laws.reports_of_runs_are_right.Goals as goal

pub returns-clause-alone : goal.returns-clause-alone
returns-clause-alone c = λ text ts s rights moves cut is a run. alone text ts s rights moves cut is a run

pub returns-clause-with_journals : goal.returns-clause-with_journals
returns-clause-with_journals c = λ text ts s rights moves journals cut is a run order kept. with_journals text ts s rights moves cut is a run journals order kept
