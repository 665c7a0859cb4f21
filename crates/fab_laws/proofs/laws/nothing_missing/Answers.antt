use Rattle.fab_laws.proofs.Closed.{meant_closed, course_closed}
use Rattle.fab_laws.proofs.laws.nothing_missing.Goals as goal

pub returns : goal.returns
returns c = record {
  once = λ program known request tid fuel. meant_closed program tid known request fuel;
  in_turn = course_closed;
}
