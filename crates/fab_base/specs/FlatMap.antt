-- The flat map: objects by name, in the order of names.
use Rattle.std.specs.Prelude.{ℕ, Bool, true, false, ◌||◌, ◌&&◌, ◌==◌, nat_lt, List, [], ◌∷◌, Option, Some, None, if◌then◌else◌}
use Rattle.std.specs.List.{list_any}
use Rattle.std.specs.Str.{bytes_eq}
use Rattle.fab_base.specs.declared.object.Oid.{Oid}
use Rattle.fab_base.specs.declared.object.Object.{Object}

-- the parts of an object's name, in the order in which they are compared and spelled
abbrev pub parts_of : Oid → List ℕ
parts_of o = o.store ∷ o.class ∷ o.worker ∷ o.boot ∷ o.number ∷ o.site ∷ o.index ∷ []

-- where two lists of one length differ first, this one has the smaller number
abbrev pub precedes : List ℕ → List ℕ → Bool
precedes [] ys = false
precedes (x ∷ xs) [] = false
precedes (x ∷ xs) (y ∷ ys) = nat_lt x y || ((x == y) && precedes xs ys)

-- this name stands before that one
abbrev pub is_before : Oid → Oid → Bool
is_before o p = precedes (parts_of o) (parts_of p)

abbrev pub is_same : Oid → Oid → Bool
is_same o p = bytes_eq (parts_of o) (parts_of p)

-- a name is among these
abbrev pub is_among : Oid → List Oid → Bool
is_among o = list_any (λ p. is_same p o)

abbrev pub FlatMap : Type 0
FlatMap = List (Oid × Object)

-- the object of this name
abbrev pub get : FlatMap → Oid → Option Object
get [] o = None
get (row ∷ rows) o = if is_same row.0 o then Some row.1 else get rows o

-- the map with this object in the place of the one of its name, or beside the others
abbrev pub put : Oid → Object → FlatMap → FlatMap
put o x [] = (o, x) ∷ []
put o x (row ∷ rows) = if is_before o row.0 then (o, x) ∷ row ∷ rows else (if is_before row.0 o then row ∷ put o x rows else (o, x) ∷ rows)

-- these put into a map one after the other
abbrev pub put_all : List (Oid × Object) → FlatMap → FlatMap
put_all [] m = m
put_all (row ∷ rows) m = put_all rows (put row.0 row.1 m)

-- the map of these
abbrev pub map_of : List (Oid × Object) → FlatMap
map_of rows = put_all rows []

-- each name once, in the order of names
abbrev pub ascends : FlatMap → Bool
ascends [] = true
ascends (row ∷ []) = true
ascends (row ∷ next ∷ rows) = is_before row.0 next.0 && ascends (next ∷ rows)
