use Rattle.fab_expressions.proofs.PrimaryRules.{sign_found}
use Rattle.fab_expressions.proofs.operators.unary_of.Goals as goal

pub returns-in-Fixed : goal.returns-in-Fixed
returns-in-Fixed c = rw c.of.ensures (sign_found c.in-Fixed.mark c.args.kind.now c.in-Fixed.is)
