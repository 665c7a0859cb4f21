-- What a request leaves of a map, which names it writes, makes and touches, and how many.
use Rattle.std.specs.Prelude.{◌≡◌, ℕ, ◌+◌, ◌<◌, ◌≤◌, Bool, true, false, ◌&&◌, ◌||◌, ◌==◌, List, [], ◌∷◌, ◌++◌, length, count_by, None}
use Rattle.std.specs.List.{list_any}
use Rattle.fab_base.specs.declared.object.Oid.{Oid}
use Rattle.fab_base.specs.declared.object.Tid.{Tid}
use Rattle.fab_base.specs.FlatMap.{FlatMap, get, is_same, ascends}
use Rattle.fab_language.specs.Heaps.{is_among, touched}
use Rattle.fab_language.specs.Meaning.{Meant}
use Rattle.fab_laws.specs.Closed.{HasOne}

-- no name stands twice
abbrev pub AreApart : List Oid → Type 0
AreApart [] = Unit {0}
AreApart (o ∷ os) = (is_among o os ≡ false) × AreApart os

-- this pair of a site and an object is among these
abbrev pub has_pair : ℕ → Oid → List (ℕ × Oid) → Bool
has_pair site o = list_any (λ t. (t.0 == site) && is_same t.1 o)

-- no pair stands twice
abbrev pub AreOnce : List (ℕ × Oid) → Type 0
AreOnce [] = Unit {0}
AreOnce (t ∷ ts) = (has_pair t.0 t.1 ts ≡ false) × AreOnce ts

-- an object of this name is made in this attempt
pub record IsOf (tid : Tid) (o : Oid) : Type 0 where
  pub worker : o.worker ≡ tid.worker
  pub boot : o.boot ≡ tid.boot
  pub number : o.number ≡ tid.number

-- a name is the next of its attempt and site behind these: its index is how many of its site stand before it
pub record IsNext (tid : Tid) (before : List Oid) (o : Oid) : Type 0 where
  pub of : IsOf tid o
  pub index : o.index ≡ count_by (λ p. p.site == o.site) before

-- each name is the next behind those before it
abbrev pub AreMade : Tid → List Oid → List Oid → Type 0
AreMade tid before [] = Unit {0}
AreMade tid before (o ∷ os) = IsNext tid before o × AreMade tid (before ++ o ∷ []) os

-- nothing of a map was made in this attempt
abbrev pub IsUnmade : Tid → FlatMap → Type 0
IsUnmade tid m = (o : Oid) → IsOf tid o → get m o ≡ None

-- ---- what a request over a known map leaves

-- under every other name than those that it wrote and made the map is as before; under these it has objects, and its names still ascend
pub record OnlyChanges (known : FlatMap) (meant : Meant) : Type 0 where
  pub others : (o : Oid) → (is_among o meant.made || is_among o meant.written) ≡ false → get meant.map o ≡ get known o
  pub there : (o : Oid) → (is_among o meant.made || is_among o meant.written) ≡ true → HasOne meant.map o
  pub ascending : ascends known ≡ true → ascends meant.map ≡ true

-- each name that it wrote was there before and was touched; it stands once
pub record WritesKnown (known : FlatMap) (meant : Meant) : Type 0 where
  pub was_there : (o : Oid) → is_among o meant.written ≡ true → HasOne known o
  pub touched : (o : Oid) → is_among o meant.written ≡ true → is_among o (touched meant.touches) ≡ true
  pub apart : AreApart meant.written

-- each name that it made is the next of its attempt and site, with an index below 256; it stands once
pub record MakesNew (tid : Tid) (meant : Meant) : Type 0 where
  pub counted : AreMade tid [] meant.made
  pub below : (o : Oid) → is_among o meant.made ≡ true → o.index < 256
  pub apart : AreApart meant.made

-- each name that it touched was there before; each touch stands once, and no more objects are touched, written and made than may be
pub record StaysWithin (known : FlatMap) (meant : Meant) : Type 0 where
  pub was_there : (o : Oid) → is_among o (touched meant.touches) ≡ true → HasOne known o
  pub once : AreOnce meant.touches
  pub few_touched : length (touched meant.touches) ≤ 1024
  pub few_changed : length meant.written + length meant.made ≤ 256
