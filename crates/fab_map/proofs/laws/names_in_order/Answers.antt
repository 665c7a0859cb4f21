use Rattle.std.proofs.Common.{ap, sym, ◌∙◌}
use Rattle.fab_base.specs.FlatMap.{is_same}
use Rattle.fab_base.proofs.NameOrder.{one_name, not_itself, before_trans, cases_name}
use Rattle.fab_base.proofs.Names.{same_self}
use Rattle.fab_map.proofs.Bytes.{before_by_bytes}
use Rattle.fab_map.proofs.laws.names_in_order.Goals as goal

pub returns : goal.returns
returns c = record {
  by_bytes = before_by_bytes;
  same = λ a b. (one_name a b, λ e. ap (is_same a) (sym e) ∙ same_self a);
  irreflexive = not_itself;
  transitive = before_trans;
  total = cases_name;
}
