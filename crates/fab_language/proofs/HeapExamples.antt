-- Worked examples of how objects are reached, written and made.
use Rattle.std.proofs.Common.{◌≡◌, ℕ, ℤ, pos, true, false, List, [], ◌∷◌, ◌++◌, length, replicate, Some, None, refl}
use Rattle.fab_base.specs.declared.object.Oid.{Oid}
use Rattle.fab_base.specs.declared.object.Object.{Object}
use Rattle.fab_base.specs.declared.object.Value.TheVariants.{Int}
use Rattle.fab_base.specs.FlatMap.{FlatMap, put}
use Rattle.fab_language.specs.Heaps.{Heap, is_among, touched, is_full, gone, full, found, reach, index_at, replaced, created}

-- ---- two roots, and what an attempt makes at two sites

abbrev pub root : ℕ → Oid
root n = record { store = 0; class = 0; worker = 65535; boot = 0; number = n; site = 65535; index = 0 }

-- what worker 3 makes in its attempt 1.7, of class 0 at store 0
abbrev pub named : ℕ → ℕ → Oid
named site index = record { store = 0; class = 0; worker = 3; boot = 1; number = 7; site = site; index = index }

abbrev pub holding : ℤ → Object
holding n = record { class = 0; fields = Int n ∷ [] }

abbrev pub two_roots : FlatMap
two_roots = (root 1, holding (pos 7)) ∷ (root 2, holding (pos 8)) ∷ []

abbrev pub heap : List Oid → List Oid → Heap
heap written made = record { rows = two_roots; written = written; made = made }

-- ---- reached

there : reach 4 (root 2) (heap [] []) ((4, root 1) ∷ []) ≡ found (holding (pos 8)) ((4, root 1) ∷ (4, root 2) ∷ [])
there = refl

-- an object is touched once at each site
once_a_site : reach 4 (root 2) (heap [] []) ((4, root 2) ∷ []) ≡ found (holding (pos 8)) ((4, root 2) ∷ [])
once_a_site = refl

another_site : reach 5 (root 2) (heap [] []) ((4, root 2) ∷ []) ≡ found (holding (pos 8)) ((4, root 2) ∷ (5, root 2) ∷ [])
another_site = refl

-- also where it was written
written_before : reach 4 (root 2) (heap (root 2 ∷ []) []) [] ≡ found (holding (pos 8)) ((4, root 2) ∷ [])
written_before = refl

-- what was made in this attempt notes no touch
made_here : reach 4 (root 2) (heap [] (root 2 ∷ [])) [] ≡ found (holding (pos 8)) []
made_here = refl

not_there : reach 4 (root 3) (heap [] []) [] ≡ gone
not_there = refl

-- a name that differs in its last part is another one
another_index : reach 4 (record (root 2) { index = 1 }) (heap [] []) [] ≡ gone
another_index = refl

-- what isn't there is gone, however many objects were touched
gone_first : (touches : List (ℕ × Oid)) → reach 4 (root 3) (heap [] []) touches ≡ gone
gone_first touches = refl

-- the 1,024th object may be touched, and not the 1,025th; but those that were touched may, and those that were made
last_touched : (o : Oid) (os : List Oid) → is_among o os ≡ false → length os ≡ 1023 → is_full o os ≡ false
last_touched o os other count = rw (other, count) refl

one_too_many : (o : Oid) (os : List Oid) → is_among o os ≡ false → length os ≡ 1024 → is_full o os ≡ true
one_too_many o os other count = rw (other, count) refl

touched_again : (o : Oid) (os : List Oid) → is_among o os ≡ true → is_full o os ≡ false
touched_again o os same = rw same refl

pub full_of_others : (touches : List (ℕ × Oid)) → is_among (root 1) (touched touches) ≡ false → length (touched touches) ≡ 1024 → reach 4 (root 1) (heap [] []) touches ≡ full
full_of_others touches other count = rw (other, count) refl

made_is_no_touch : (touches : List (ℕ × Oid)) → reach 4 (root 1) (heap [] (root 1 ∷ [])) touches ≡ found (holding (pos 7)) touches
made_is_no_touch touches = refl

-- what was touched at several sites is one object
objects_touched : touched ((4, root 1) ∷ (5, root 1) ∷ (4, root 2) ∷ (6, root 1) ∷ []) ≡ root 1 ∷ root 2 ∷ []
objects_touched = refl

-- ---- written

-- these two, and an object beside them or in the place of one
abbrev pub rows_with : Oid → Object → FlatMap
rows_with o x = put o x two_roots

first_write : replaced (root 1) (holding (pos 9)) (heap [] []) ≡ Some (record { rows = (root 1, holding (pos 9)) ∷ (root 2, holding (pos 8)) ∷ []; written = root 1 ∷ []; made = [] })
first_write = refl

-- a write of the value that was there is one
same_value : replaced (root 1) (holding (pos 7)) (heap [] []) ≡ Some (heap (root 1 ∷ []) [])
same_value = refl

-- names stand in the order in which they came, each once
in_their_order : replaced (root 1) (holding (pos 7)) (heap (root 2 ∷ []) []) ≡ Some (heap (root 2 ∷ root 1 ∷ []) [])
in_their_order = refl

second_write : replaced (root 1) (holding (pos 7)) (heap (root 1 ∷ root 2 ∷ []) []) ≡ Some (heap (root 1 ∷ root 2 ∷ []) [])
second_write = refl

-- what was made stands among the made alone
write_of_made : replaced (named 4 0) (holding (pos 9)) (heap [] (named 4 0 ∷ [])) ≡ Some (record { rows = rows_with (named 4 0) (holding (pos 9)); written = []; made = named 4 0 ∷ [] })
write_of_made = refl

-- ---- made

first_made : created (named 4 0) (holding (pos 1)) (heap (root 1 ∷ []) []) ≡ Some (record { rows = (named 4 0, holding (pos 1)) ∷ two_roots; written = root 1 ∷ []; made = named 4 0 ∷ [] })
first_made = refl

-- an index counts the objects of its site alone
next_at_4 : index_at 4 (heap [] (named 4 0 ∷ named 5 0 ∷ named 4 1 ∷ [])) ≡ 2
next_at_4 = refl

next_at_5 : index_at 5 (heap [] (named 4 0 ∷ named 5 0 ∷ named 4 1 ∷ [])) ≡ 1
next_at_5 = refl

next_at_6 : index_at 6 (heap (root 1 ∷ []) (named 4 0 ∷ [])) ≡ 0
next_at_6 = refl

-- ---- at most 256 changes, of whichever kind

abbrev pub so_many : ℕ → List Oid
so_many n = replicate n (root 2)

last_write : replaced (root 1) (holding (pos 7)) (heap (so_many 200) (so_many 55)) ≡ Some (heap (so_many 200 ++ root 1 ∷ []) (so_many 55))
last_write = refl

no_write : replaced (root 1) (holding (pos 9)) (heap (so_many 200) (so_many 56)) ≡ None
no_write = refl

last_of_made : created (named 4 0) (holding (pos 1)) (heap (so_many 255) []) ≡ Some (record { rows = rows_with (named 4 0) (holding (pos 1)); written = so_many 255; made = named 4 0 ∷ [] })
last_of_made = refl

no_more_made : created (named 4 0) (holding (pos 1)) (heap [] (so_many 256)) ≡ None
no_more_made = refl

-- what was written or made before may be written again
again_at_the_end : replaced (root 2) (holding (pos 8)) (heap (so_many 256) []) ≡ Some (heap (so_many 256) [])
again_at_the_end = refl

made_again_at_the_end : replaced (root 2) (holding (pos 8)) (heap [] (so_many 256)) ≡ Some (heap [] (so_many 256))
made_again_at_the_end = refl
