-- A walk over commits, in steps of a map in which who may do what plays no part.
use Rattle.std.specs.Prelude.{ℕ, Bool, List, take}
use Rattle.std.specs.List.{fold}
use Rattle.fab_base.specs.declared.object.Oid.{Oid}
use Rattle.fab_base.specs.declared.object.Value.{Value}
use Rattle.fab_base.specs.FlatMap.{FlatMap, get}
use Rattle.fab_language.specs.Evaluation.{map_at_start}
use Rattle.fab_tree.specs.declared.resolved.Resolved.{Resolved}
use Rattle.fab_net.specs.declared.note.Commit.{Commit}
use Rattle.fab_world.specs.Serial.{within}
use Rattle.fab_serial.specs.Replays.{behind}
use Rattle.fab_reads.specs.Reads.{fields_of}

-- the map behind the first so many
abbrev pub map_after : Resolved → (ℕ → Bool) → List Commit → ℕ → FlatMap
map_after r ex commits count = fold (behind r ex) (within ex (map_at_start r)) (take count commits)

-- the values of the object of a name there
abbrev pub values_there : Resolved → (ℕ → Bool) → List Commit → Oid → ℕ → List Value
values_there r ex commits o count = fields_of (get (map_after r ex commits count) o)
