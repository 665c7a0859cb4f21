use Rattle.fab_ended.proofs.Reports.{reports_are_final, reports_end, requests_are_final, requests_end}
use Rattle.fab_ended.proofs.laws.bundles_end.Goals as goal

pub returns : goal.returns
returns c = record { ended = requests_end; unmarked = requests_are_final; shown = reports_end; shown_unmarked = reports_are_final }
