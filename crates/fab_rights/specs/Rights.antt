-- What stores and workers know of classes and of one another. Bit n of a mask stands for node n.
use Rattle.std.specs.Prelude.{◌≡◌, ℕ, ◌<◌, length, slice_get, IsSomeAnd, IsBitSet}
use Rattle.std.specs.List.{AllZip}
use Rattle.fab_base.specs.declared.object.Value.{Value}
use Rattle.fab_base.specs.declared.object.Value.TheVariants.{Int, Null, Ref}
use Rattle.fab_base.specs.declared.object.Object.{Object}
use Rattle.fab_base.specs.Values.{IsNumberOf}
use Rattle.fab_rights.specs.declared.rights.Rights.{Rights}
use Rattle.fab_rights.specs.declared.rights.Shape.{Shape}
use Rattle.fab_rights.specs.declared.rights.Shape.TheVariants as shapes

-- there is a class of this number
abbrev pub Knows : Rights → ℕ → Type 0
Knows r class = class < length r.classes

-- the node of this number is a worker
abbrev pub IsWorkerIn : Rights → ℕ → Type 0
IsWorkerIn r node = IsBitSet r.workers node

-- the node of this number is a store
abbrev pub IsStoreIn : Rights → ℕ → Type 0
IsStoreIn r node = IsBitSet r.stores node

-- ---- what a node may do with the objects of a class, where there is one of the number

abbrev pub MayFetch : Rights → ℕ → ℕ → Type 0
MayFetch r worker class = IsSomeAnd (slice_get r.classes class) (λ c. IsBitSet c.fetchers worker)

abbrev pub MayWrite : Rights → ℕ → ℕ → Type 0
MayWrite r worker class = IsSomeAnd (slice_get r.classes class) (λ c. IsBitSet c.writers worker)

abbrev pub MayHold : Rights → ℕ → ℕ → Type 0
MayHold r store class = IsSomeAnd (slice_get r.classes class) (λ c. IsBitSet c.holders store)

-- ---- objects

-- A field of numbers holds a number of its width. A field of a class holds null, or a reference of that class to a store that may hold it.
abbrev pub FitsField : Rights → Shape → Value → Type 0
FitsField r (shapes.Number w) v = IsNumberOf w v
FitsField r (shapes.Class class) (Int n) = ⊥
FitsField r (shapes.Class class) Null = Unit {0}
FitsField r (shapes.Class class) (Ref o) = (o.class ≡ class) × MayHold r o.store o.class

-- an object is of a known class, and has as many fields as that class, each with what it may hold
abbrev pub IsWellFormed : Rights → Object → Type 0
IsWellFormed r x = IsSomeAnd (slice_get r.classes x.class) (λ c. AllZip (FitsField r) c.fields x.fields)
