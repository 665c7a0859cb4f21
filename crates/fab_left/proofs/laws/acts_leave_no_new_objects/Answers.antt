use Rattle.fab_left.proofs.Carried as carried
use Rattle.fab_left.proofs.ErasedCarried as erased_carried
use Rattle.fab_left.proofs.laws.acts_leave_no_new_objects.Goals as goal

pub returns : goal.returns
returns c = record {
  acts = λ tid known s. (carried.acts tid known s).keeps;
  erased_acts = λ sees shows classes locals tid known s. (erased_carried.acts tid known sees shows classes locals s).keeps;
}
