use Rattle.fab_principals.proofs.ChainLemmas.{ActsFor-refl, ActsFor-trans}
use Rattle.fab_principals.proofs.laws.acts_for_laws.Goals as goal

pub returns : goal.returns
returns c = record { reflexive = ActsFor-refl; transitive = ActsFor-trans }
