-- What is kept of a request that is done again: of some classes, the objects that it wrote, and then those that it made.
use Rattle.std.specs.Prelude.{ℕ, Bool, List, ◌++◌}
use Rattle.std.specs.List.{filter}
use Rattle.fab_base.specs.declared.object.Oid.{Oid}
use Rattle.fab_base.specs.FlatMap.{FlatMap, is_among, put_all}
use Rattle.fab_world.specs.Serial.{within}

-- the rows of these names
abbrev pub named : List Oid → FlatMap → FlatMap
named names rows = filter (λ row. is_among row.0 names) rows

-- a map behind changes: of the rows, those of the classes in ex that were written, and then those that were made
abbrev pub changed : (ℕ → Bool) → List Oid → List Oid → FlatMap → FlatMap → FlatMap
changed ex written made rows N = put_all (within ex (named written rows ++ named made rows)) N
