-- What stands under a name among rows.
use Rattle.std.specs.Prelude.{ℕ, List, Option, option_map, reverse}
use Rattle.fab_base.specs.declared.object.Oid.{Oid}
use Rattle.fab_base.specs.declared.object.Object.{Object}
use Rattle.fab_protocol.specs.Tables.{row_of}
use Rattle.fab_protocol.specs.Versions.{Rows, name_of}

-- the version and the object of the first row of the name
abbrev pub under : Rows → Oid → Option (ℕ × Object)
under rows o = option_map (λ row. (row.1, row.2)) (row_of name_of rows o)

-- of the last one
abbrev pub last_under : Rows → Oid → Option (ℕ × Object)
last_under rows o = under (reverse rows) o
