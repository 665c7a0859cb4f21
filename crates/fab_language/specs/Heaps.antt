-- The objects of a run at a point, what of them it wrote and made, and how an object is reached, replaced and made.
use Rattle.std.specs.Prelude.{ℕ, ◌+◌, Bool, not, ◌&&◌, ◌||◌, ◌==◌, nat_le, if◌then◌else◌, List, [], ◌∷◌, ◌++◌, map, length, count_by, Option, Some, None}
use Rattle.std.specs.List.{list_any}
use Rattle.fab_base.specs.declared.object.Oid.{Oid}
use Rattle.fab_base.specs.declared.object.Object.{Object}
use Rattle.fab_base.specs.FlatMap.{FlatMap, get, put, is_same}
pub use Rattle.fab_base.specs.FlatMap.{is_among}

-- All objects by name, the names that were written of objects that were there before, and the names that were made
-- in this attempt, both in the order in which they came. A failed `atomic` puts the whole of it back.
pub record Heap : Type 0 where
  pub rows : FlatMap
  pub written : List Oid
  pub made : List Oid

-- ---- lists of names, and touches

abbrev pub without : Oid → List Oid → List Oid
without o [] = []
without o (p ∷ ps) = if is_same p o then without o ps else p ∷ without o ps

-- these names, each once, in the order in which they come first
abbrev pub each_once : List Oid → List Oid
each_once [] = []
each_once (o ∷ os) = o ∷ without o (each_once os)

-- the objects that were touched; a touch is a site and an object
abbrev pub touched : List (ℕ × Oid) → List Oid
touched touches = each_once (map (λ t. t.1) touches)

-- a touch is noted once per pair of site and object
abbrev pub noted : ℕ → Oid → List (ℕ × Oid) → List (ℕ × Oid)
noted site o touches = if list_any (λ t. (t.0 == site) && is_same t.1 o) touches then touches else touches ++ (site, o) ∷ []

-- one object more can't be touched: it would be the 1,025th
abbrev pub is_full : Oid → List Oid → Bool
is_full o os = not (is_among o os) && nat_le 1024 (length os)

-- ---- an object is reached

-- an object isn't there, it would be one touch too many, or it is there, with the touches behind
pub data Reach : Type 0 where
  gone : Reach
  full : Reach
  found : Object → List (ℕ × Oid) → Reach

-- an object that was there before is touched, if it isn't one too many
abbrev pub reach_before : ℕ → Oid → Object → List (ℕ × Oid) → Reach
reach_before site o x touches = if is_full o (touched touches) then full else found x (noted site o touches)

-- an object that was made in this attempt notes no touch
abbrev pub reach_in : ℕ → Oid → Option Object → List Oid → List (ℕ × Oid) → Reach
reach_in site o None made touches = gone
reach_in site o (Some x) made touches = if is_among o made then found x touches else reach_before site o x touches

abbrev pub reach : ℕ → Oid → Heap → List (ℕ × Oid) → Reach
reach site o h touches = reach_in site o (get h.rows o) h.made touches

-- ---- objects are replaced and made

-- how many objects were written or made
abbrev pub changed : Heap → ℕ
changed h = length h.written + length h.made

-- one change more would be the 257th
abbrev pub is_spent : Heap → Bool
is_spent h = nat_le 256 (changed h)

-- how many objects that were made this site has in the heap; those that a failure took back don't count
abbrev pub index_at : ℕ → Heap → ℕ
index_at site h = count_by (λ o. o.site == site) h.made

-- this object was written or made before
abbrev pub is_changed : Oid → Heap → Bool
is_changed o h = is_among o h.made || is_among o h.written

-- an object stands in the place of the one of its name
abbrev pub with_row : Oid → Object → Heap → Heap
with_row o x h = record h { rows = put o x h.rows }

-- an object is written for the first time
abbrev pub newly_written : Oid → Object → Heap → Option Heap
newly_written o x h = if is_spent h then None else Some (record (with_row o x h) { written = h.written ++ o ∷ [] })

-- an object is written; what was written or made before isn't counted again
abbrev pub replaced : Oid → Object → Heap → Option Heap
replaced o x h = if is_changed o h then Some (with_row o x h) else newly_written o x h

-- an object is made
abbrev pub created : Oid → Object → Heap → Option Heap
created o x h = if is_spent h then None else Some (record (with_row o x h) { made = h.made ++ o ∷ [] })
