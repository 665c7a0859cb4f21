-- What a commit puts of an object.
use Rattle.std.proofs.Common.{◌≡◌, refl, [], ◌∷◌, ◌++◌, map, Some, None, arith}
use Rattle.fab_base.specs.declared.object.Oid.{Oid}
use Rattle.fab_protocol.specs.Tables.{row_of}
use Rattle.fab_protocol.specs.Versions.{Row, Rows, name_of, raised}

-- from the writes, with the next version
pub written : (writes answers : Rows) (o : Oid) (w : Row) → row_of name_of writes o ≡ Some w → row_of name_of (map raised writes ++ answers) o ≡ Some (raised w)
written [] answers o w h = grind arith
written (x ∷ writes) answers o w h = grind (arith, written writes answers o w)

-- or else from the answers
pub only_answered : (writes answers : Rows) (o : Oid) → row_of name_of writes o ≡ None → row_of name_of (map raised writes ++ answers) o ≡ row_of name_of answers o
only_answered [] answers o h = refl
only_answered (x ∷ writes) answers o h = grind (arith, only_answered writes answers o)
