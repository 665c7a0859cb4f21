use Rattle.fab_audit.proofs.Told.{same_events}
use Rattle.fab_audit.proofs.laws.one_report_tells_one_list_of_events.Goals as goal

pub returns : goal.returns
returns c = λ text ts s rights first second cut is a one other same. same_events text ts s rights cut is a first second one other same
