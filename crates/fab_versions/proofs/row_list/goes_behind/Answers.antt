use Rattle.std.proofs.Common.{◌∙◌, sym, arith}
use Rattle.fab_base.proofs.NameOrder.{before_from_less, derived_is}
use Rattle.fab_protocol.specs.Versions.{name_of}
use Rattle.fab_versions.proofs.Found.{before_last}
use Rattle.fab_versions.proofs.row_list.goes_behind.Goals as goal

-- all are before the name, since the last is
pub returns-in-Less : goal.returns-in-Less
returns-in-Less c = λ _. (
  omega (arith, c.in-Some.ensures.0),
  before_last name_of c.args.rows.now c.requires c.args.oid c.in-Some.last c.index-rows-last.result (omega (arith, c.in-Some.ensures.0, c.in-Some.ensures.1))
      (before_from_less _ c.args.oid (sym (derived_is _ c.args.oid) ∙ sym c.in-Less.ensures)),
)
