use Rattle.fab_language.specs.Numbers.{resolved}
use Rattle.fab_integrity.proofs.Live.{live}
use Rattle.fab_integrity.proofs.Over.{over_is_done}
use Rattle.fab_settings.specs.Settings.{lines_of, setting_of}
use Rattle.fab_settings.proofs.Gives.{gives_setting}
use Rattle.fab_settings.proofs.Meanings.{evaluates}
use Rattle.fab_settings.proofs.Posts.{hostile_post}
use Rattle.fab_settings.proofs.laws.bundles_go_on.Goals as goal

pub returns : goal.returns
returns c = record {
  posts = hostile_post;
  live = λ s rights a. live (setting_of (resolved s) rights) (gives_setting s rights a) (evaluates s rights a) (hostile_post s rights a);
  left = λ s rights a. over_is_done (setting_of (resolved s) rights) (gives_setting s rights a) (evaluates s rights a) (hostile_post s rights a) (lines_of (resolved s));
}
