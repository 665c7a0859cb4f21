use Rattle.fab_ended.proofs.Reports.{bundle_answered, bundle_patient, reports_are_answered, runs_are_calm}
use Rattle.fab_ended.proofs.laws.bundles_are_answered.Goals as goal

pub returns : goal.returns
returns c = record { calm = runs_are_calm; patient = bundle_patient; answered = bundle_answered; shown = reports_are_answered }
