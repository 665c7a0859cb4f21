use Rattle.fab_principals.proofs.SetLemmas.{in_set-zero}
use Rattle.fab_authority.proofs.sets.set_of.Goals as goal

pub loop-principal-init : goal.loop-principal-init
loop-principal-init c = in_set-zero
