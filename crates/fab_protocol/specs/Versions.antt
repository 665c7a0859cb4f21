-- Attempts by name, objects with their versions, and what a commit makes of these.
use Rattle.std.specs.Prelude.{ℕ, suc, Bool, ◌&&◌, ◌==◌, if◌then◌else◌, List, [], ◌∷◌, ◌++◌, map}
use Rattle.fab_base.specs.declared.object.Oid.{Oid}
use Rattle.fab_base.specs.declared.object.Object.{Object}
use Rattle.fab_base.specs.declared.object.Tid.{Tid}
use Rattle.fab_base.specs.declared.message.Items.{Items}
use Rattle.fab_base.specs.FlatMap.{is_same}

-- ---- tids

abbrev pub is_tid : Tid → Tid → Bool
is_tid t u = (t.worker == u.worker) && ((t.boot == u.boot) && (t.number == u.number))

-- the attempt that made the object of this name
abbrev pub maker_of : Oid → Tid
maker_of o = record { worker = o.worker; boot = o.boot; number = o.number }

abbrev pub is_made_in : Tid → Oid → Bool
is_made_in t o = is_tid (maker_of o) t

-- ---- objects with their versions, as stores keep and answer them

abbrev pub Row : Type 0
Row = Oid × ℕ × Object

abbrev pub Rows : Type 0
Rows = List Row

abbrev pub name_of : Row → Oid
name_of row = row.0

abbrev pub names_of : Rows → List Oid
names_of rows = map name_of rows

abbrev pub objects_of : Rows → List (Oid × Object)
objects_of rows = map (λ row. (row.0, row.2)) rows

-- the version of the first row of this name, 0 where there is none: versions begin at 1
abbrev pub version_of : Rows → Oid → ℕ
version_of [] o = 0
version_of (row ∷ rows) o = if is_same row.0 o then row.1 else version_of rows o

-- the version behind a write; the greatest stays
abbrev pub risen : ℕ → ℕ
risen version = if version == 4294967295 then version else suc version

-- a write, which has the version that was read, as it is behind the commit; and an object that is made
abbrev pub raised : Row → Row
raised w = (w.0, risen w.1, w.2)

abbrev pub begun : Oid × Object → Row
begun c = (c.0, 1, c.1)

-- what the writes and creates of a Prepare leave behind
abbrev pub left_by : Items → Rows
left_by items = map raised items.writes ++ map begun items.creates
