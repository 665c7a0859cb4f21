use Rattle.fab_expressions.proofs.PrimaryRules.{sign_at}
use Rattle.fab_expressions.proofs.operators.unary_operator.Goals as goal

pub returns-in-Some-unary_of : goal.returns-in-Some-unary_of
returns-in-Some-unary_of c = sign_at c.in-Some-unary_of.operator c.in-Some.ensures c.in-Some-unary_of.ensures
