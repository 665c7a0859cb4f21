use Rattle.fab_laws.proofs.Changes.{leaves}
use Rattle.fab_laws.proofs.laws.touches_stay_within_limits.Goals as goal

pub returns : goal.returns
returns c = λ program known request tid fuel. (leaves known program tid request fuel).stays
