use Rattle.fab_reports.proofs.Printing.{is_its_report}
use Rattle.fab_reports.proofs.Showing.{each_fits}
use Rattle.fab_reports.proofs.laws.printed_report_has_its_lines.Goals as goal

pub returns-clause-spelled : goal.returns-clause-spelled
returns-clause-spelled c = is_its_report

pub returns-clause-shown : goal.returns-clause-shown
returns-clause-shown c = λ r log held outcomes f. is_its_report r log held outcomes (each_fits r log held outcomes f)
