use Rattle.std.proofs.Common.{[], refl}
use Rattle.fab_map.proofs.Rows.{ascends-put, ascends-put_all, same_from_get}
use Rattle.fab_map.proofs.laws.ascending_rows.Goals as goal

pub returns : goal.returns
returns c = record {
  put = ascends-put;
  made = λ rows. ascends-put_all rows [] refl;
  determined = same_from_get;
}
