use Rattle.fab_ended.proofs.Silent.{are_calm, none_gives_up, none_silent}
use Rattle.fab_ended.proofs.laws.nobody_is_silent.Goals as goal

pub returns : goal.returns
returns c = record { calm = are_calm; patient = none_gives_up; answered = none_silent }
