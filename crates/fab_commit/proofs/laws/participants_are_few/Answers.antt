use Rattle.fab_commit.proofs.Numbers.{stores_ascend, stores_are_few}
use Rattle.fab_commit.proofs.laws.participants_are_few.Goals as goal

pub returns : goal.returns
returns c = record {
  ascending = stores_ascend;
  few = λ parts keeps nodes. stores_are_few parts keeps (stores_ascend parts nodes);
}
