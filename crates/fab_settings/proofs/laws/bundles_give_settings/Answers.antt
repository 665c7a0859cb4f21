use Rattle.fab_settings.proofs.Gives.{gives_setting}
use Rattle.fab_settings.proofs.laws.bundles_give_settings.Goals as goal

pub returns : goal.returns
returns c = gives_setting
