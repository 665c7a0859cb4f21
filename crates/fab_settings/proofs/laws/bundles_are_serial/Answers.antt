use Rattle.fab_language.specs.Numbers.{resolved}
use Rattle.fab_integrity.proofs.Once.{once}
use Rattle.fab_integrity.proofs.Runs.{serial, ends, left_out}
use Rattle.fab_settings.specs.Settings.{setting_of}
use Rattle.fab_settings.proofs.Gives.{gives_setting}
use Rattle.fab_settings.proofs.Meanings.{evaluates}
use Rattle.fab_settings.proofs.laws.bundles_are_serial.Goals as goal

pub returns : goal.returns
returns c = record {
  serial = λ s rights a. serial (setting_of (resolved s) rights) (gives_setting s rights a) (evaluates s rights a);
  ends = λ s rights a. ends (setting_of (resolved s) rights) (gives_setting s rights a) (evaluates s rights a);
  once = λ s rights a. once (setting_of (resolved s) rights) (gives_setting s rights a);
  left_out = λ s rights a. left_out (setting_of (resolved s) rights) (gives_setting s rights a) (evaluates s rights a);
}
