-- What stores and workers know, as truth values that compute. The calls of `Rights` answer these.
use Rattle.std.specs.Prelude.{ℕ, ◌^◌, bit_and, Bool, true, false, not, ◌&&◌, ◌||◌, ◌==◌, nat_lt, List, [], ◌∷◌, length, Option, Some, None, slice_get}
use Rattle.std.specs.List.{filter, range_with_len}
use Rattle.fab_base.specs.declared.object.Oid.{Oid}
use Rattle.fab_base.specs.declared.object.Object.{Object}
use Rattle.fab_base.specs.declared.object.Value.{Value}
use Rattle.fab_base.specs.declared.object.Value.TheVariants.{Int, Null, Ref}
use Rattle.fab_rights.specs.declared.rights.ClassRights.{ClassRights}
use Rattle.fab_base.specs.Values.{is_number_of}
use Rattle.fab_rights.specs.declared.rights.Rights.{Rights}
use Rattle.fab_rights.specs.declared.rights.Shape.{Shape}
use Rattle.fab_rights.specs.declared.rights.Shape.TheVariants as shapes

-- bit n of the mask is 1
abbrev pub has_bit : ℕ → ℕ → Bool
has_bit mask n = not (bit_and mask (2 ^ n) == 0)

-- ---- nodes

abbrev pub is_worker : Rights → ℕ → Bool
is_worker r n = has_bit r.workers n

abbrev pub is_store : Rights → ℕ → Bool
is_store r n = has_bit r.stores n

abbrev pub is_node : Rights → ℕ → Bool
is_node r n = is_worker r n || is_store r n

-- the nodes, and the stores among them, in the order of their numbers
abbrev pub nodes_in : Rights → List ℕ
nodes_in r = filter (is_node r) (range_with_len 0 64)

abbrev pub stores_in : Rights → List ℕ
stores_in r = filter (is_store r) (range_with_len 0 64)

-- ---- what a node may do with the objects of a class; an unknown class gives nobody a right

abbrev pub knows : Rights → ℕ → Bool
knows r class = nat_lt class (length r.classes)

abbrev pub fetches : Option ClassRights → ℕ → Bool
fetches None n = false
fetches (Some c) n = has_bit c.fetchers n

abbrev pub writes : Option ClassRights → ℕ → Bool
writes None n = false
writes (Some c) n = has_bit c.writers n

abbrev pub holds : Option ClassRights → ℕ → Bool
holds None n = false
holds (Some c) n = has_bit c.holders n

abbrev pub may_fetch : Rights → ℕ → ℕ → Bool
may_fetch r worker class = fetches (slice_get r.classes class) worker

abbrev pub may_write : Rights → ℕ → ℕ → Bool
may_write r worker class = writes (slice_get r.classes class) worker

abbrev pub may_hold : Rights → ℕ → ℕ → Bool
may_hold r store class = holds (slice_get r.classes class) store

-- ---- objects

-- a field of numbers holds a number of its width; one of a class null, or a reference of that class to a store that may hold it
abbrev pub fits_field : Rights → Shape → Value → Bool
fits_field r (shapes.Number w) v = is_number_of w v
fits_field r (shapes.Class class) (Int n) = false
fits_field r (shapes.Class class) Null = true
fits_field r (shapes.Class class) (Ref o) = (o.class == class) && may_hold r o.store class

abbrev pub fit_fields : Rights → List Shape → List Value → Bool
fit_fields r [] [] = true
fit_fields r [] (v ∷ vs) = false
fit_fields r (f ∷ fs) [] = false
fit_fields r (f ∷ fs) (v ∷ vs) = fits_field r f v && fit_fields r fs vs

abbrev pub fits_class : Rights → Option ClassRights → Object → Bool
fits_class r None x = false
fits_class r (Some c) x = fit_fields r c.fields x.fields

-- of a known class, with as many fields as that class, each with what it may hold
abbrev pub is_well_formed : Rights → Object → Bool
is_well_formed r x = fits_class r (slice_get r.classes x.class) x

-- an object that may stand under this name
abbrev pub suits : Rights → Oid → Object → Bool
suits r o x = is_well_formed r x && (x.class == o.class)
