-- Objects whose stores may hold their classes.
use Rattle.std.specs.Prelude.{◌≡◌, ℕ, true, List, Some, IfSome}
use Rattle.std.specs.List.{AllByRecursion}
use Rattle.fab_base.specs.declared.object.Oid.{Oid}
use Rattle.fab_base.specs.declared.object.Object.{Object}
use Rattle.fab_base.specs.declared.object.Value.{Value}
use Rattle.fab_base.specs.FlatMap.{FlatMap, get}
use Rattle.fab_base.specs.Values.{referred}
use Rattle.fab_tree.specs.declared.resolved.Resolved.{Resolved}
use Rattle.fab_language.specs.declared.ending.Ending.TheVariants.{Ended, Missing}
use Rattle.fab_language.specs.Flows.{delegations_of}
use Rattle.fab_language.specs.Heaps.{is_among, touched}
use Rattle.fab_language.specs.Meaning.{Meant}
use Rattle.fab_labelling.specs.Placement.{MayHoldNumber}
use Rattle.fab_laws.specs.Kinds.{Claim, given, counted, made}

-- the store of a name may hold the name's class
abbrev pub IsHeld : Resolved → Oid → Type 0
IsHeld r o = MayHoldNumber r (delegations_of r) o.store o.class

-- so may that of a value that is a reference
abbrev pub RefersToHeld : Resolved → Value → Type 0
RefersToHeld r v = IfSome (referred v) (IsHeld r)

abbrev pub AllHeld : Resolved → List Value → Type 0
AllHeld r vs = AllByRecursion (RefersToHeld r) vs

-- of each object of a map the name is so, and each reference in it
pub record HasOnlyHeld (r : Resolved) (m : FlatMap) : Type 0 where
  pub names : (o : Oid) (x : Object) → get m o ≡ Some x → IsHeld r o
  pub references : (o : Oid) (x : Object) → get m o ≡ Some x → AllHeld r x.fields

-- where a program makes objects of a class at a store, the store may hold the class
abbrev pub MakesHeld : Resolved → Claim → Type 0
MakesHeld r (given taker kind) = Unit {0}
MakesHeld r (counted places values) = Unit {0}
MakesHeld r (made store class site) = MayHoldNumber r (delegations_of r) store class

-- each name is so that a request touched, wrote, made or missed, each object that it left, and what it returned
pub record OnlyHeld (r : Resolved) (meant : Meant) : Type 0 where
  pub touched : (o : Oid) → is_among o (touched meant.touches) ≡ true → IsHeld r o
  pub written : (o : Oid) → is_among o meant.written ≡ true → IsHeld r o
  pub made : (o : Oid) → is_among o meant.made ≡ true → IsHeld r o
  pub missing : (site : ℕ) (o : Oid) → meant.ending ≡ Missing site o → IsHeld r o
  pub objects : HasOnlyHeld r meant.map
  pub result : (v : Value) → meant.ending ≡ Ended (Some v) → RefersToHeld r v
