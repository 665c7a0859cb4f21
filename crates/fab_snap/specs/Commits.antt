-- Commits one after the other, and the states that they make of a start.
use Rattle.std.specs.Prelude.{◌≡◌, List, ◌++◌, fold, Option}
use Rattle.std.specs.Option.{option_map}
use Rattle.fab_base.specs.declared.object.Oid.{Oid}
use Rattle.fab_base.specs.declared.object.Object.{Object}
use Rattle.fab_protocol.specs.Tables.{placed_all, row_of}
use Rattle.fab_protocol.specs.Versions.{Row, Rows, name_of}
use Rattle.fab_snap.specs.declared.write_set.WriteSet.{WriteSet}

-- the rows after these commits: what each leaves is placed over what was there
abbrev pub rows_after : Rows → List WriteSet → Rows
rows_after start commits = fold (λ rows c. placed_all name_of c.leaves rows) start commits

-- the object that stands under a name
abbrev pub object_at : Oid → Rows → Option Object
object_at o rows = option_map (λ (row : Row). row.2) (row_of name_of rows o)

-- a list of commits begins with these
abbrev pub StartsWith : List WriteSet → List WriteSet → Type 0
StartsWith all first = (rest : List WriteSet) × (all ≡ first ++ rest)
