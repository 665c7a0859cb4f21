-- Where the names come from that a request touches, writes, makes and misses.
use Rattle.std.specs.Prelude.{◌≡◌, ◌⊎◌, ℕ, ◌<◌, Bool, true, false, List, [], ◌∷◌, ◌++◌, Some, option_map, unwrap_or, IfSome}
use Rattle.std.specs.List.{AllByRecursion, list_any}
use Rattle.fab_base.specs.declared.object.Oid.{Oid}
use Rattle.fab_base.specs.declared.object.Object.{Object}
use Rattle.fab_base.specs.declared.object.Tid.{Tid}
use Rattle.fab_base.specs.declared.object.Value.{Value}
use Rattle.fab_base.specs.FlatMap.{FlatMap, get, is_same}
use Rattle.fab_base.specs.Values.{referred}
use Rattle.fab_language.specs.declared.ending.Ending.TheVariants.{Ended, Missing}
use Rattle.fab_language.specs.Heaps.{is_among, touched}
use Rattle.fab_language.specs.Meaning.{Meant}
use Rattle.fab_laws.specs.Kinds.{Claim, given, counted, made}

-- ---- by a test of names

-- a value that is a reference passes by its name
abbrev pub Passes : (Oid → Bool) → Value → Type 0
Passes p v = IfSome (referred v) (λ o. p o ≡ true)

abbrev pub AllPass : (Oid → Bool) → List Value → Type 0
AllPass p vs = AllByRecursion (Passes p) vs

-- each reference in an object of the map passes
abbrev pub HasOnlyPassing : (Oid → Bool) → FlatMap → Type 0
HasOnlyPassing p m = (o : Oid) (x : Object) → get m o ≡ Some x → AllPass p x.fields

-- the name of the object that an attempt makes of a class at a store and a site, with this index
abbrev pub name_at : Tid → ℕ → ℕ → ℕ → ℕ → Oid
name_at tid store class site index = record { store = store; class = class; worker = tid.worker; boot = tid.boot; number = tid.number; site = site; index = index }

-- each name passes that an attempt may make where the program makes objects
abbrev pub MakesPassing : (Oid → Bool) → Tid → Claim → Type 0
MakesPassing p tid (given taker kind) = Unit {0}
MakesPassing p tid (counted places values) = Unit {0}
MakesPassing p tid (made store class site) = (index : ℕ) → index < 256 → p (name_at tid store class site index) ≡ true

-- whatever a request touched, wrote, made or missed passes, and so does each reference in what it left and returned
pub record OnlyPassing (p : Oid → Bool) (meant : Meant) : Type 0 where
  pub touched : (o : Oid) → is_among o (touched meant.touches) ≡ true → p o ≡ true
  pub written : (o : Oid) → is_among o meant.written ≡ true → p o ≡ true
  pub made : (o : Oid) → is_among o meant.made ≡ true → p o ≡ true
  pub missing : (site : ℕ) (o : Oid) → meant.ending ≡ Missing site o → p o ≡ true
  pub objects : HasOnlyPassing p meant.map
  pub result : (v : Value) → meant.ending ≡ Ended (Some v) → Passes p v

-- ---- one after the other

abbrev pub is_to : Oid → Value → Bool
is_to o v = unwrap_or (option_map (λ p. is_same p o) (referred v)) false

-- one of the values is a reference to this object
abbrev pub refer : Oid → List Value → Bool
refer o = list_any (is_to o)

-- a name stands in the arguments, or in a field that a known object had which was touched before
pub data ComesFrom (known : FlatMap) (args : List Value) (before : List (ℕ × Oid)) (o : Oid) : Type 0 where
  from_arguments : refer o args ≡ true → ComesFrom known args before o
  from_object : (p : Oid) (x : Object) → is_among p (touched before) ≡ true → get known p ≡ Some x → refer o x.fields ≡ true → ComesFrom known args before o

-- so does the name of each touch, by those before it
abbrev pub EachComesFrom : FlatMap → List Value → List (ℕ × Oid) → List (ℕ × Oid) → Type 0
EachComesFrom known args before [] = Unit {0}
EachComesFrom known args before (t ∷ ts) = ComesFrom known args before t.1 × EachComesFrom known args (before ++ t ∷ []) ts

-- a value that is a reference comes so from somewhere, or leads to an object that was made
abbrev pub IsFrom : FlatMap → List Value → List (ℕ × Oid) → List Oid → Value → Type 0
IsFrom known args touches own v = IfSome (referred v) (λ o. ComesFrom known args touches o ⊎ (is_among o own ≡ true))

-- each touch of a request comes from the arguments and the touches before it, and what it returned from somewhere
pub record HasOrigins (known : FlatMap) (args : List Value) (meant : Meant) : Type 0 where
  pub touches : EachComesFrom known args [] meant.touches
  pub result : (v : Value) → meant.ending ≡ Ended (Some v) → IsFrom known args meant.touches meant.made v
