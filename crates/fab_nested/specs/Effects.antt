-- The objects of names in a map.
use Rattle.std.specs.Prelude.{List, [], ◌∷◌, Option, Some, None}
use Rattle.std.specs.List.{flat_map}
use Rattle.fab_base.specs.declared.object.Oid.{Oid}
use Rattle.fab_base.specs.declared.object.Object.{Object}
use Rattle.fab_base.specs.FlatMap.{FlatMap, get}

-- the row of a name, if its object is there
abbrev pub object_at : Oid → Option Object → FlatMap
object_at o None = []
object_at o (Some x) = (o, x) ∷ []

abbrev pub objects_at : FlatMap → List Oid → FlatMap
objects_at rows names = flat_map (λ o. object_at o (get rows o)) names
