-- A table as contracts see it.
use Rattle.std.specs.Prelude.{ℕ}
use Rattle.fab_protocol.specs.Tables.{placed_all}
use Rattle.fab_protocol.specs.Versions.{Rows, name_of}

-- the rows, and for how many more there is room
pub record Holding : Type 0 where
  pub rows : Rows
  pub spare : ℕ

-- rows, with those that stand beside them in their places
abbrev pub rows_of : Rows → Rows → Rows
rows_of rows beside = placed_all name_of beside rows
