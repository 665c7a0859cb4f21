-- The two ends, as contracts see them.
use Rattle.std.specs.Prelude.{Bool, List}
use Rattle.fab_protocol.specs.Versions.{Rows}
use Rattle.fab_snap.specs.declared.write_set.WriteSet.{WriteSet}

-- the rows at the start, the commits that were added, and whether one was refused
pub record Adding : Type 0 where
  pub start : Rows
  pub commits : List WriteSet
  pub broken : Bool

-- the rows at the start, the commits that the last read saw, and those that were told of
pub record Reading : Type 0 where
  pub start : Rows
  pub seen : List WriteSet
  pub told : List WriteSet
