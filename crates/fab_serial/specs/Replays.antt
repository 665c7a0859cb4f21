-- The commits in what an event logged, and replaying a bundle's commits, as steps of a map. Who may do what plays no part in it.
use Rattle.std.specs.Prelude.{ℕ, Bool, List, []}
use Rattle.std.specs.List.{flat_map}
use Rattle.fab_base.specs.FlatMap.{FlatMap, map_of}
use Rattle.fab_tree.specs.declared.resolved.Resolved.{Resolved}
use Rattle.fab_net.specs.declared.note.Commit.{Commit}
use Rattle.fab_net.specs.declared.note.Logged.{Logged}
use Rattle.fab_rights.specs.declared.rights.Rights.{Rights}
use Rattle.fab_world.specs.Machine.{Setting}
use Rattle.fab_world.specs.Attempts.{parts_of}
use Rattle.fab_world.specs.Serial.{again, changes_of, commit_in, replay_one, within}
use Rattle.fab_settings.specs.Settings.{setting_of}

-- the commits that the notes of an event tell of
abbrev pub commits_at : Logged → List Commit
commits_at logged = flat_map commit_in logged.notes

abbrev pub no_rights : Rights
no_rights = record { workers = 0; stores = 0; classes = [] }

abbrev pub setting : Resolved → Setting
setting r = setting_of r no_rights

-- the map behind one commit more
unfoldable pub behind : Resolved → (ℕ → Bool) → FlatMap → Commit → FlatMap
behind r ex N c = replay_one (setting r) ex N c

-- the objects of the classes in ex that a commit leaves over this map: those that it wrote or made
abbrev pub left_by : Resolved → (ℕ → Bool) → FlatMap → Commit → FlatMap
left_by r ex N c = map_of (within ex (changes_of (parts_of c.answers (again (setting r) ex N c))))
