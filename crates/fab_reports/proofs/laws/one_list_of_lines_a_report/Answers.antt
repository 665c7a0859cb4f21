use Rattle.fab_reports.proofs.Wholes.{one_report}
use Rattle.fab_reports.proofs.laws.one_list_of_lines_a_report.Goals as goal

pub returns : goal.returns
returns c = one_report
