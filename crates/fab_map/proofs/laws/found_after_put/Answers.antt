use Rattle.fab_map.proofs.Rows.{get-put_same, get-put_other}
use Rattle.fab_map.proofs.laws.found_after_put.Goals as goal
use Rattle.fab_base.proofs.NameOrder.{apart_names}

pub returns : goal.returns
returns c = record {
  this = get-put_same;
  others = λ o p x m h. get-put_other o p x m (apart_names o p h);
}
