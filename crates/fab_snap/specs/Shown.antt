-- Which start and which commits a published state is behind.
use Rattle.std.specs.Prelude.{◌≡◌, List, [], length, Option, Some, None}
use Rattle.core.specs.declared.snapshot.Snapshot.{Snapshot}
use Rattle.fab_protocol.specs.Versions.{Rows}
use Rattle.fab_snap.specs.declared.write_set.WriteSet.{WriteSet}
use Rattle.fab_snap.specs.declared.state.Change.{Change}
use Rattle.fab_snap.specs.declared.state.Snap.{Snap}
use Rattle.fab_snap.specs.Commits.{rows_after}

abbrev pub commits_in : Option (Snapshot Change) → List WriteSet
commits_in None = []
commits_in (Some s) = s.value.all.value.items

abbrev pub commits_of : Snap → List WriteSet
commits_of x = commits_in x.last

abbrev pub start_of : Snap → Rows
start_of x = x.start.value.rows

-- the rows and the number are those after its commits
pub record IsBehind (x : Snap) : Type 0 where
  pub rows : x.rows.rows ≡ rows_after (start_of x) (commits_of x)
  pub count : x.count ≡ length (commits_of x)
