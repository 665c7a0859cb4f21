use Rattle.fab_settings.proofs.Meanings.{evaluates}
use Rattle.fab_settings.proofs.laws.meanings_are_evaluations.Goals as goal

pub returns : goal.returns
returns c = evaluates
