use Rattle.fab_language.specs.Numbers.{resolved}
use Rattle.fab_outcomes.proofs.Having.{have_causes, are_one, stay}
use Rattle.fab_outcomes.proofs.Sessions.{of_sessions}
use Rattle.fab_outcomes.proofs.WellFormed.{stores_are_well_formed}
use Rattle.fab_outcomes.proofs.laws.bundles_have_causes.Goals as goal
use Rattle.fab_settings.specs.Settings.{setting_of}
use Rattle.fab_settings.proofs.Gives.{gives_setting}
use Rattle.fab_settings.proofs.Meanings.{evaluates}

pub returns : goal.returns
returns c = record {
  causes = λ s rights a. have_causes (setting_of (resolved s) rights);
  one = λ s rights a. are_one (setting_of (resolved s) rights);
  stay = λ s rights a. stay (setting_of (resolved s) rights);
  sessions = λ s rights a. of_sessions (setting_of (resolved s) rights);
  well_formed = λ s rights a. stores_are_well_formed (setting_of (resolved s) rights) (gives_setting s rights a) (evaluates s rights a);
}
