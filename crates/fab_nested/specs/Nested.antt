-- The objects of a run, with the heaps to which a failure may have to go back, and what each call does.
use Rattle.std.specs.Prelude.{ℕ, if◌then◌else◌, List, [], ◌∷◌, ◌++◌, map, filter, Option, Some, None}
use Rattle.fab_base.specs.declared.object.Oid.{Oid}
use Rattle.fab_base.specs.declared.object.Object.{Object}
use Rattle.fab_base.specs.declared.object.Value.{Value}
use Rattle.fab_base.specs.declared.object.Stop.{Stop}
use Rattle.fab_base.specs.declared.object.Stop.TheVariants.{Reads, Writes}
use Rattle.fab_base.specs.FlatMap.{FlatMap, is_same, map_of}
use Rattle.fab_language.specs.Heaps.{Heap, Reach, gone, full, found, reach, replaced, created, with_row, is_among, is_changed}
use Rattle.fab_language.specs.Meaning.{field_of, with_field, unchanged}

-- objects as they were answered, each with its version
abbrev pub Answers : Type 0
Answers = List (Oid × ℕ × Object)

abbrev pub names_of : Answers → List Oid
names_of answers = map (λ a. a.0) answers

abbrev pub objects_of : Answers → FlatMap
objects_of answers = map (λ a. (a.0, a.2)) answers

abbrev pub versions_of : Answers → List (Oid × ℕ)
versions_of answers = map (λ a. (a.0, a.1)) answers

-- The versions with which objects were answered; the heap; the heaps to which a failure may have to go back, the
-- last one first; and the touches in order, each a site and an object.
pub record Nested : Type 0 where
  pub versions : List (Oid × ℕ)
  pub now : Heap
  pub saved : List Heap
  pub touches : List (ℕ × Oid)

-- nothing is written, made or touched yet, and no heap is saved
abbrev pub nested_of : Answers → Nested
nested_of answers = record { versions = versions_of answers; now = unchanged (map_of (objects_of answers)); saved = []; touches = [] }

-- the same over a map of objects without versions
abbrev pub nested_over : FlatMap → Nested
nested_over known = record { versions = []; now = unchanged known; saved = []; touches = [] }

-- one answer more: its object is in the heap, and in each heap that is saved
abbrev pub answered : Oid → ℕ → Object → Nested → Nested
answered o version x n = record {
  versions = n.versions ++ (o, version) ∷ [];
  now = with_row o x n.now;
  saved = map (with_row o x) n.saved;
  touches = n.touches;
}

-- ---- objects are read, written and made

-- how a call ends, and what stands then: it gives a value, an object isn't there, or a limit stops it
pub data Call (A : Type 0) : Type 0 where
  gives : A → Nested → Call A
  needs : Oid → Nested → Call A
  stops : Stop → Nested → Call A

-- what goes on with an object that was reached
abbrev pub reached : {A : Type 0} → Oid → Reach → (Object → Nested → Call A) → Nested → Call A
reached o gone next n = needs o n
reached o full next n = stops Reads n
reached o (found x touches) next n = next x (record n { touches = touches })

abbrev pub access : {A : Type 0} → ℕ → Oid → (Object → Nested → Call A) → Nested → Call A
access site o next n = reached o (reach site o n.now n.touches) next n

-- the heap behind a change, if there is one
abbrev pub settled : Option Heap → Nested → Call (Unit {0})
settled None n = stops Writes n
settled (Some h) n = gives tt (record n { now = h })

abbrev pub read : ℕ → Oid → ℕ → Nested → Call Value
read site o field = access site o (λ x. gives (field_of field x))

-- the object is touched, and then counted
abbrev pub write : ℕ → Oid → ℕ → Value → Nested → Call (Unit {0})
write site o field v = access site o (λ x n. settled (replaced o (with_field field v x) n.now) n)

abbrev pub create : Oid → Object → Nested → Call (Unit {0})
create o x n = settled (created o x n.now) n

-- ---- heaps are saved

abbrev pub entered : Nested → Nested
entered n = record n { saved = n.now ∷ n.saved }

-- the heap is again the last of these that were saved; touches stay
abbrev pub back_to : List Heap → Nested → Nested
back_to [] n = n
back_to (h ∷ others) n = record n { now = h; saved = others }

abbrev pub aborted : Nested → Nested
aborted n = back_to n.saved n

-- the last of these that were saved is given up
abbrev pub kept_from : List Heap → Nested → Nested
kept_from [] n = n
kept_from (h ∷ others) n = record n { saved = others }

abbrev pub merged : Nested → Nested
merged n = kept_from n.saved n

-- ---- what was changed

-- the version with which an object was answered
abbrev pub version_of : List (Oid × ℕ) → Oid → ℕ
version_of [] o = 0
version_of (v ∷ others) o = if is_same v.0 o then v.1 else version_of others o

-- the rows of a map whose names were written, each with the version of its answer
abbrev pub writes_in : List (Oid × ℕ) → List Oid → FlatMap → Answers
writes_in versions written rows = map (λ row. (row.0, version_of versions row.0, row.1)) (filter (λ row. is_among row.0 written) rows)

-- the rows of a map whose names were made
abbrev pub creates_in : List Oid → FlatMap → FlatMap
creates_in made rows = filter (λ row. is_among row.0 made) rows

-- the rows of a heap whose names were written or made
abbrev pub changed_in : Heap → FlatMap
changed_in h = filter (λ row. is_changed row.0 h) h.rows
