use Rattle.fab_laws.proofs.Carried.{carried}
use Rattle.fab_laws.proofs.laws.changes_carry_over.Goals as goal

pub returns : goal.returns
returns c = λ program request tid fuel few many. carried few many program request tid fuel
