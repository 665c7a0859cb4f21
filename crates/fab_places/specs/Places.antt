-- Rights that are those of a bundle, and which classes a set of nodes reads or can't have influenced.
use Rattle.std.specs.Prelude.{◌≡◌, ℕ, ◌<◌, ◌↔◌, length, map, slice_get, IsSomeAnd, IfSome, All}
use Rattle.std.specs.List.{AllZip}
use Rattle.fab_base.specs.declared.object.Value.{Value}
use Rattle.fab_base.specs.declared.object.Value.TheVariants.{Int, Null, Ref}
use Rattle.fab_base.specs.declared.object.Object.{Object}
use Rattle.fab_base.specs.Principals.{Delegations}
use Rattle.fab_base.specs.Values.{IsNumberOf}
use Rattle.fab_tree.specs.declared.resolved.Sort.{Sort}
use Rattle.fab_tree.specs.declared.resolved.Sort.TheVariants as sorts
use Rattle.fab_tree.specs.declared.resolved.Field.{Field}
use Rattle.fab_tree.specs.declared.resolved.Resolved.{Resolved}
use Rattle.fab_language.specs.Flows.{delegations_of}
use Rattle.fab_labelling.specs.Readers.{IsVisible, Excludes, label_at}
use Rattle.fab_labelling.specs.Placement.{IsWorker, IsStore, MayFetchNumber, MayWriteNumber, MayHoldNumber}
use Rattle.fab_rights.specs.declared.rights.Rights.{Rights}
use Rattle.fab_rights.specs.declared.rights.Shape.{Shape}
use Rattle.fab_rights.specs.declared.rights.Shape.TheVariants as shapes
use Rattle.fab_rights.specs.Rights.{Knows, IsWorkerIn, IsStoreIn, MayFetch, MayWrite, MayHold, IsWellFormed}

-- workers and stores have numbers that a mask of 64 bits holds
abbrev pub HasNumbers : Resolved → Type 0
HasNumbers r = All (λ x. IfSome x.node (λ n. n < 64)) r.nodes

-- ---- objects

-- what a field of a type holds
abbrev pub shape_of_sort : Sort → Shape
shape_of_sort (sorts.Number w) = shapes.Number w
shape_of_sort (sorts.Class x) = shapes.Class x.number

abbrev pub shape_of : Field → Shape
shape_of x = shape_of_sort x.sort

-- A field of numbers holds a number of its width. A field of a class holds null, or a reference of that class to a store that may hold it.
abbrev pub MayContain : Resolved → Sort → Value → Type 0
MayContain r (sorts.Number w) v = IsNumberOf w v
MayContain r (sorts.Class x) (Int n) = ⊥
MayContain r (sorts.Class x) Null = Unit {0}
MayContain r (sorts.Class x) (Ref o) = (o.class ≡ x.number) × MayHoldNumber r (delegations_of r) o.store o.class

-- an object is of a class of the bundle, and has as many fields as that class, each with what it may hold
abbrev pub IsPlaced : Resolved → Object → Type 0
IsPlaced r x = IsSomeAnd (slice_get r.classes x.class) (λ c. AllZip (λ f v. MayContain r f.sort v) c.fields x.fields)

-- ---- rights

-- the rights are those of the bundle, for each node, class and object
pub record AreRights (r : Resolved) (rights : Rights) : Type 0 where
  pub workers : (n : ℕ) → IsWorkerIn rights n ↔ IsWorker r n
  pub stores : (n : ℕ) → IsStoreIn rights n ↔ IsStore r n
  pub classes : (c : ℕ) → Knows rights c ↔ (c < length r.classes)
  pub shapes : map (λ x. x.fields) rights.classes ≡ map (λ c. map shape_of c.fields) r.classes
  pub fetched : (n c : ℕ) → MayFetch rights n c ↔ MayFetchNumber r (delegations_of r) n c
  pub written : (n c : ℕ) → MayWrite rights n c ↔ MayWriteNumber r (delegations_of r) n c
  pub held : (n c : ℕ) → MayHold rights n c ↔ MayHoldNumber r (delegations_of r) n c
  pub formed : (x : Object) → IsWellFormed rights x ↔ IsPlaced r x

-- ---- sets of nodes

-- there is a class of this number, and one of the nodes may read its objects
abbrev pub ClassIsVisible : Resolved → Delegations → ℕ → ℕ → Type 0
ClassIsVisible r d nodes class = IsSomeAnd (slice_get r.classes class) (λ c. IsVisible r d nodes (label_at r c.label.number))

-- there is a class of this number, and none of the nodes may have influenced its objects
abbrev pub ClassExcludes : Resolved → Delegations → ℕ → ℕ → Type 0
ClassExcludes r d nodes class = IsSomeAnd (slice_get r.classes class) (λ c. Excludes r d nodes (label_at r c.label.number))
