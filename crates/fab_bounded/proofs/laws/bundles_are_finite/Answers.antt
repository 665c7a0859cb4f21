use Rattle.std.proofs.Common.{arith}
use Rattle.fab_language.specs.Numbers.{resolved}
use Rattle.fab_world.specs.Serial.{attempts}
use Rattle.fab_finite.proofs.Ends.{ends_by_lines, ends_by_starts}
use Rattle.fab_settings.specs.Settings.{lines_of, setting_of}
use Rattle.fab_settings.proofs.Gives.{gives_setting}
use Rattle.fab_settings.proofs.Meanings.{evaluates}
use Rattle.fab_bounded.proofs.Touching.{touches}
use Rattle.fab_bounded.proofs.laws.bundles_are_finite.Goals as goal

pub returns : goal.returns
returns c = record {
  touches = λ s rights a. touches s rights;
  starts = λ s rights a moves can.
      ends_by_starts (setting_of (resolved s) rights) (gives_setting s rights a) (evaluates s rights a) (touches s rights) moves (attempts moves) can (omega arith);
  lines = λ s rights a.
      ends_by_lines (setting_of (resolved s) rights) (gives_setting s rights a) (evaluates s rights a) (touches s rights) (lines_of (resolved s));
}
