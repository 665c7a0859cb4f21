use Rattle.fab_fewer.proofs.Blanks.{blanks_change_nothing, blanked_is_alike}
use Rattle.fab_fewer.proofs.laws.blanks_change_nothing.Goals as goal

pub returns : goal.returns
returns c = record { alike = blanks_change_nothing; blanked = blanked_is_alike }
