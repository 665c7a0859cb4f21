use Rattle.fab_map.proofs.Made.{get-map_of, map_of-IsPermutation, distinct_from_ascends, map_of_own}
use Rattle.fab_map.proofs.laws.rows_of_map.Goals as goal

pub returns : goal.returns
returns c = record {
  found = get-map_of;
  any_order = map_of-IsPermutation;
  distinct = distinct_from_ascends;
  own = map_of_own;
}
