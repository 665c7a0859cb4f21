use Rattle.fab_left.proofs.Costs.{act_costs, act_starves, returned_level, erased_costs, erased_starves, erased_returned}
use Rattle.fab_left.proofs.laws.acts_cost_one.Goals as goal

pub returns : goal.returns
returns c = record {
  acts = act_costs;
  starved = act_starves;
  results = λ r. (returned_level r).by;
  erased_acts = erased_costs;
  erased_starved = erased_starves;
  erased_results = λ sees shows classes locals returns r. (erased_returned sees shows classes locals returns r).by;
}
