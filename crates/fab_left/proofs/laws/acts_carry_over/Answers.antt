use Rattle.fab_left.proofs.Carried as carried
use Rattle.fab_left.proofs.ErasedCarried as erased_carried
use Rattle.fab_left.proofs.laws.acts_carry_over.Goals as goal

pub returns : goal.returns
returns c = record {
  acts = λ tid known s. (carried.acts tid known s).by;
  results = λ tid known r. (carried.returned_carries tid known r).by;
  erased_acts = λ sees shows classes locals tid known s. (erased_carried.acts tid known sees shows classes locals s).by;
  erased_results = λ sees shows classes locals tid known returns r. (erased_carried.returned_carries tid known sees shows classes locals returns r).by;
}
