use Rattle.fab_map.proofs.Changing.{removed-put, put_field-back}
use Rattle.fab_map.proofs.laws.changes_undone.Goals as goal

pub returns : goal.returns
returns c = record {
  put = removed-put;
  field = put_field-back;
}
