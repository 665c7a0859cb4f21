use Rattle.std.proofs.Common.{ap, sym, ◌∙◌}
use Rattle.fab_base.proofs.NameOrder.{derived_is, derived_cmp, less_from_before, before_from_less, derived_equal, derived_itself}
use Rattle.fab_map.proofs.laws.names_compared.Goals as goal

pub returns : goal.returns
returns c = record {
  less = λ a b. (λ h. before_from_less a b (sym (derived_is a b) ∙ h), λ h. derived_is a b ∙ less_from_before a b h);
  equal = λ a b. (derived_equal a b, λ e. ap (derived_cmp a) (sym e) ∙ derived_itself a);
}
