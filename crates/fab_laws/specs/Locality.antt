-- What a request does over few objects, beside what it does over many.
use Rattle.std.specs.Prelude.{◌≡◌, ℕ, ◌||◌, true, List, ◌++◌, filter, Some, None, if◌then◌else◌}
use Rattle.fab_base.specs.declared.object.Oid.{Oid}
use Rattle.fab_base.specs.declared.object.Object.{Object}
use Rattle.fab_base.specs.declared.object.Value.{Value}
use Rattle.fab_base.specs.declared.object.Stop.TheVariants.{Reads}
use Rattle.fab_base.specs.FlatMap.{FlatMap, get, put_all}
use Rattle.fab_language.specs.declared.ending.Ending.TheVariants.{Stopped, Missing}
use Rattle.fab_language.specs.Heaps.{is_among, touched}
use Rattle.fab_language.specs.Meaning.{Meant}

-- whatever the few are under a name, the many are, too
abbrev pub IsPart : FlatMap → FlatMap → Type 0
IsPart few many = (o : Oid) (x : Object) → get few o ≡ Some x → get many o ≡ Some x

-- if an object was missing, the many don't have it either
abbrev pub LacksToo : FlatMap → Meant → Type 0
LacksToo many meant = (site : ℕ) (o : Oid) → meant.ending ≡ Missing site o → get many o ≡ None

-- What a request over the few touched is the same in the many, and what it lacked isn't there.
-- Where it was stopped for one touch too many, that object isn't noted, so each of the few is the same.
pub record AgreesOn (few many : FlatMap) (meant : Meant) : Type 0 where
  pub at_touched : (o : Oid) (x : Object) → is_among o (touched meant.touches) ≡ true → get few o ≡ Some x → get many o ≡ Some x
  pub at_missing : LacksToo many meant
  pub at_full : meant.ending ≡ Stopped Reads → IsPart few many

-- It ends in the same way, with the same touches, downgraded values, written and made names.
-- Under the names that it wrote and made the map behind it has the same, and under every other name what the many had.
pub record IsSameOver (many : FlatMap) (over_few over_many : Meant) : Type 0 where
  pub ending : over_many.ending ≡ over_few.ending
  pub touches : over_many.touches ≡ over_few.touches
  pub downs : over_many.downs ≡ over_few.downs
  pub written : over_many.written ≡ over_few.written
  pub made : over_many.made ≡ over_few.made
  pub map : (o : Oid) → get over_many.map o ≡ (if is_among o over_few.made || is_among o over_few.written then get over_few.map o else get many o)

-- over many it notes what it noted over few, and then perhaps more
pub record GoesOn (over_few over_many : Meant) : Type 0 where
  pub touches : (more : List (ℕ × Oid)) × (over_many.touches ≡ over_few.touches ++ more)
  pub downs : (more : List (ℕ × Value)) × (over_many.downs ≡ over_few.downs ++ more)

-- the rows of a map under these names
abbrev pub rows_among : List Oid → FlatMap → FlatMap
rows_among names rows = filter (λ row. is_among row.0 names) rows

-- a map with what a request wrote and made put into it
abbrev pub with_changes : Meant → FlatMap → FlatMap
with_changes meant m = put_all (rows_among meant.made meant.map) (put_all (rows_among meant.written meant.map) m)
