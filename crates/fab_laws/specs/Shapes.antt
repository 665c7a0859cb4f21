-- Objects that have the shape of their classes, and programs whose values fit where they are put.
use Rattle.std.specs.Prelude.{◌≡◌, Bool, true, false, ◌==◌, List, [], ◌∷◌, Some, slice_get}
use Rattle.std.specs.List.{list_all}
use Rattle.fab_base.specs.declared.object.Oid.{Oid}
use Rattle.fab_base.specs.declared.object.Object.{Object}
use Rattle.fab_base.specs.declared.object.Value.{Value}
use Rattle.fab_base.specs.declared.object.Value.TheVariants.{Null, Ref}
use Rattle.fab_base.specs.FlatMap.{FlatMap, get}
use Rattle.fab_tree.specs.declared.resolved.Class.{Class}
use Rattle.fab_tree.specs.declared.resolved.Resolved.{Resolved}
use Rattle.fab_tree.specs.declared.resolved.Request.{Request}
use Rattle.fab_language.specs.declared.ending.Ending.TheVariants.{Ended}
use Rattle.fab_language.specs.Meaning.{Meant}
use Rattle.fab_laws.specs.Kinds.{Kind, number, object, nothing, unknown, takes, class_kinds, parameter_kinds, result_kind}
use Rattle.fab_laws.specs.Kinds.{Claim, given, counted, made, claims_of}
use Rattle.fab_base.specs.Values.{is_number_of}

-- a value is of a kind; a reference is of the class of its name, and null is of every class
abbrev pub suits : Kind → Value → Bool
suits (number w) v = is_number_of w v
suits (object class) Null = true
suits (object class) (Ref o) = o.class == class
suits nothing Null = true
suits unknown v = true
suits _ _ = false

-- as many values as kinds, each of its kind
abbrev pub AllSuit : List Kind → List Value → Type 0
AllSuit [] [] = Unit {0}
AllSuit [] (v ∷ vs) = ⊥
AllSuit (k ∷ ks) [] = ⊥
AllSuit (k ∷ ks) (v ∷ vs) = (suits k v ≡ true) × AllSuit ks vs

-- an object under a name is of the name's class, and has the fields of that class
pub record IsShaped (classes : List Class) (o : Oid) (x : Object) : Type 0 where
  pub class : x.class ≡ o.class
  pub fields : AllSuit (class_kinds classes o.class) x.fields

abbrev pub AreShaped : List Class → FlatMap → Type 0
AreShaped classes m = (o : Oid) (x : Object) → get m o ≡ Some x → IsShaped classes o x

-- ---- programs and requests

abbrev pub is_met : Claim → Bool
is_met (given taker kind) = takes taker kind
is_met (counted places values) = places == values
is_met (made store class site) = true

-- each value fits where the program puts it
abbrev pub is_fitting : Resolved → Bool
is_fitting program = list_all is_met (claims_of program)

-- a request gives its method what the parameters hold
abbrev pub IsFitting : Resolved → Request → Type 0
IsFitting program request = AllSuit (parameter_kinds (slice_get program.methods request.method)) request.args

-- the objects behind a request have their shape, and what it returned is of the kind of its method's result
pub record KeepsShape (program : Resolved) (request : Request) (meant : Meant) : Type 0 where
  pub objects : AreShaped program.classes meant.map
  pub result : (v : Value) → meant.ending ≡ Ended (Some v) → suits (result_kind (slice_get program.methods request.method)) v ≡ true
