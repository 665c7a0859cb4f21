use Rattle.std.proofs.Common.{refl}
use Rattle.fab_laws.proofs.Origins.{meant_from}
use Rattle.fab_laws.proofs.laws.touches_come_from_somewhere.Goals as goal

pub returns : goal.returns
returns c = λ program known request tid fuel. meant_from known request.args program tid request fuel refl
