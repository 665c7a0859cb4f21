use Rattle.fab_reports.proofs.Wholes.{nothing_follows}
use Rattle.fab_reports.proofs.laws.no_report_begins_another.Goals as goal

pub returns : goal.returns
returns c = nothing_follows
