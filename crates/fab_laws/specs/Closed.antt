-- Maps in which each reference leads to an object.
use Rattle.std.specs.Prelude.{◌≡◌, List, Some, IfSome}
use Rattle.std.specs.List.{AllByRecursion}
use Rattle.fab_base.specs.declared.object.Oid.{Oid}
use Rattle.fab_base.specs.declared.object.Object.{Object}
use Rattle.fab_base.specs.declared.object.Value.{Value}
use Rattle.fab_base.specs.FlatMap.{FlatMap, get}
use Rattle.fab_base.specs.Values.{referred}
use Rattle.fab_language.specs.declared.ending.Ending.{Ending}
use Rattle.fab_language.specs.declared.ending.Ending.TheVariants.{Ended, Missing}
use Rattle.fab_language.specs.Meaning.{Meant}

-- a name has an object
abbrev pub HasOne : FlatMap → Oid → Type 0
HasOne m o = (x : Object) × (get m o ≡ Some x)

-- a value that is a reference leads to an object
abbrev pub IsThere : FlatMap → Value → Type 0
IsThere m v = IfSome (referred v) (HasOne m)

abbrev pub AreThere : FlatMap → List Value → Type 0
AreThere m vs = AllByRecursion (IsThere m) vs

-- each reference in an object of the map leads to an object of the map
abbrev pub IsClosed : FlatMap → Type 0
IsClosed m = (o : Oid) (x : Object) → get m o ≡ Some x → AreThere m x.fields

-- no object was missing
abbrev pub IsFound : Ending → Type 0
IsFound (Missing site o) = ⊥
IsFound _ = Unit {0}

-- over a known map that is so, no object was missing, the map behind is so, each known object is still there, and so is one that was returned
pub record IsClosedBehind (known : FlatMap) (meant : Meant) : Type 0 where
  pub found : IsFound meant.ending
  pub closed : IsClosed meant.map
  pub still : (o : Oid) (x : Object) → get known o ≡ Some x → HasOne meant.map o
  pub result : (v : Value) → meant.ending ≡ Ended (Some v) → IsThere meant.map v
