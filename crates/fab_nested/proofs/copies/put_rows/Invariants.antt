use Rattle.std.proofs.Common.{◌≡◌, take}
use Rattle.fab_base.specs.FlatMap.{put_all}
use Rattle.fab_nested.proofs.copies.put_rows.Given as goal

abbrev pub invariant-loop-row : goal.invariant-loop-row
invariant-loop-row l = l.map ≡ put_all (take l.row-index l.rows) l.initial.map
