use Rattle.fab_store.proofs.Recovered.{in_a_row, of_roots}
use Rattle.fab_store.proofs.laws.kept_in_a_row.Goals as goal

pub returns : goal.returns
returns c = record {
  kept = in_a_row;
  shelf = of_roots;
}
