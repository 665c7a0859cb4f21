-- What is done over fewer objects: the same, until one is lacked.
use Rattle.std.specs.Prelude.{◌≡◌, ◌≢◌, ◌⊎◌, ℕ, IsTrue, List, ◌∷◌, ◌++◌, None}
use Rattle.std.specs.List.{AllByRecursion}
use Rattle.fab_base.specs.declared.object.Oid.{Oid}
use Rattle.fab_base.specs.declared.object.Stop.TheVariants.{Reads}
use Rattle.fab_base.specs.FlatMap.{FlatMap, get, ascends}
use Rattle.fab_language.specs.declared.ending.Ending.TheVariants.{Stopped, Missing}
use Rattle.fab_language.specs.Meaning.{Meant}
use Rattle.fab_laws.specs.Closed.{HasOne}
use Rattle.fab_laws.specs.Locality.{IsSameOver}

-- the one list is a front of the other
pub record IsFront {A : Type 0} (xs ys : List A) : Type 0 where
  pub rest : List A
  pub is : xs ++ rest ≡ ys

-- each touched object is in the map
abbrev pub AreKnown : FlatMap → List (ℕ × Oid) → Type 0
AreKnown known touches = AllByRecursion (λ t. HasOne known t.1) touches

-- what is touched is in the map, and what is missing isn't
pub record KnowsTouched (known : FlatMap) (meant : Meant) : Type 0 where
  pub touched : AreKnown known meant.touches
  pub missing : (site : ℕ) (o : Oid) → meant.ending ≡ Missing site o → get known o ≡ None

-- it ended for want of an object, behind these touches, and what was downgraded before is a front of all that is downgraded over the many
pub record LacksAt (before : List (ℕ × Oid)) (site : ℕ) (o : Oid) (over_many over_few : Meant) : Type 0 where
  pub ending : over_few.ending ≡ Missing site o
  pub touches : over_few.touches ≡ before
  pub downs : IsFront over_few.downs over_many.downs

-- one touch too many, of an object that the few lack: there it is missing, and all else is the same
pub record LacksLast (few many : FlatMap) (over_many over_few : Meant) : Type 0 where
  pub site : ℕ
  pub object : Oid
  pub unknown : get few object ≡ None
  pub there : HasOne many object
  pub ending : over_few.ending ≡ Missing site object
  pub touches : over_few.touches ≡ over_many.touches
  pub downs : over_few.downs ≡ over_many.downs
  pub written : over_few.written ≡ over_many.written
  pub made : over_few.made ≡ over_many.made

-- What is done over the few, which are a part of the many. Just one of the three can be asked.
pub record IsOverFewer (few many : FlatMap) (over_many over_few : Meant) : Type 0 where
  -- it is the same if the few have all that is touched; under the names that were written and made the maps have the same,
  -- and under every other name the map behind has what the few had
  pub same : AreKnown few over_many.touches → over_many.ending ≢ Stopped Reads → IsSameOver few over_many over_few
  -- and the map behind it ascends where the few do
  pub ascending : AreKnown few over_many.touches → over_many.ending ≢ Stopped Reads → IsTrue (ascends few) → IsTrue (ascends over_few.map)
  -- if it was stopped for one touch too many, the few may lack that object
  pub full : AreKnown few over_many.touches → over_many.ending ≡ Stopped Reads → IsSameOver few over_many over_few ⊎ LacksLast few many over_many over_few
  -- else the first object that is touched and that the few lack is missing
  pub lacks : (before : List (ℕ × Oid)) (site : ℕ) (o : Oid) (after : List (ℕ × Oid)) → over_many.touches ≡ before ++ (site, o) ∷ after
      → AreKnown few before → get few o ≡ None → LacksAt before site o over_many over_few
