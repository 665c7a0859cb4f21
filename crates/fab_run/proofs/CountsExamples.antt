-- What is taken for the counts of reads beside a run, computed.
use Rattle.std.proofs.Common.{◌≡◌, ℕ, Bool, true, false, List, [], ◌∷◌, ◌==◌, if◌then◌else◌, Some, None, refl, pos, negsuc}
use Rattle.fab_base.specs.declared.object.Object.{Object}
use Rattle.fab_base.specs.declared.object.Oid.{Oid}
use Rattle.fab_base.specs.declared.object.Value.{Value}
use Rattle.fab_base.specs.declared.object.Value.TheVariants.{Int, Null, Ref}
use Rattle.fab_net.specs.declared.note.Commit.{Commit}
use Rattle.fab_run.specs.Counts.{Sight, agree, are_equal, counts_beside, never_falls}

abbrev oid : ℕ → Oid
oid number = record { store = 1; class = 0; worker = 65535; boot = 0; number = number; site = 65535; index = 0 }

abbrev commit : ℕ → Commit
commit number = record { worker = 3; request = 5; tid = record { worker = 3; boot = 1; number = number }; answers = [] }

abbrev two : List Commit
two = commit 1 ∷ commit 2 ∷ []

-- behind none of them the object has 9, behind one 5, and behind both it isn't there
abbrev values : ℕ → List Value
values count = if count == 0 then Int (pos 9) ∷ [] else (if count == 1 then Int (pos 5) ∷ [] else [])

abbrev saw : ℕ → ℕ → Sight
saw count number = (count, Some (record { class = 0; fields = Int (pos number) ∷ [] }))

abbrev saw_none : ℕ → Sight
saw_none count = (count, None)

-- ---- numbers and values

stays : never_falls (1 ∷ 1 ∷ 2 ∷ []) ≡ true
stays = refl

falls_at_last : never_falls (1 ∷ 2 ∷ 2 ∷ 1 ∷ []) ≡ false
falls_at_last = refl

falls_at_first : never_falls (2 ∷ 1 ∷ 2 ∷ []) ≡ false
falls_at_first = refl

same : are_equal (Int (pos 9) ∷ Null ∷ Ref (oid 4) ∷ []) (Int (pos 9) ∷ Null ∷ Ref (oid 4) ∷ []) ≡ true
same = refl

other_sign : are_equal (Int (pos 1) ∷ []) (Int (negsuc 0) ∷ []) ≡ false
other_sign = refl

other_object : are_equal (Ref (oid 4) ∷ []) (Ref (oid 5) ∷ []) ≡ false
other_object = refl

one_more : are_equal (Null ∷ []) (Null ∷ Null ∷ []) ≡ false
one_more = refl

-- ---- reads

-- one before the first commit, one behind it
beside : counts_beside 2 two values (saw 0 9 ∷ saw 1 5 ∷ []) ≡ 0 ∷ 1 ∷ 2 ∷ []
beside = refl

-- the same state twice
same_state : counts_beside 2 two values (saw 1 5 ∷ saw 1 5 ∷ []) ≡ 1 ∷ 1 ∷ 2 ∷ []
same_state = refl

-- one behind both, where the object isn't there
gone : counts_beside 2 two values (saw 0 9 ∷ saw_none 2 ∷ []) ≡ 0 ∷ 2 ∷ 2 ∷ []
gone = refl

-- the first read saw what stands there behind one commit, and says that it came before it: all are taken as behind the run
made_up : counts_beside 2 two values (saw 0 5 ∷ saw 1 5 ∷ []) ≡ 2 ∷ 2 ∷ 2 ∷ []
made_up = refl

-- so is one that saw an object where none is, and one that saw none where one is
not_there : agree 2 two values (saw 0 9 ∷ saw 2 5 ∷ []) ≡ false
not_there = refl

not_seen : agree 2 two values (saw 0 9 ∷ saw_none 1 ∷ []) ≡ false
not_seen = refl

-- an older state behind a newer one
older : counts_beside 2 two values (saw 1 5 ∷ saw 0 9 ∷ []) ≡ 2 ∷ 2 ∷ 2 ∷ []
older = refl

-- more commits than there are
too_many : counts_beside 2 two values (saw 0 9 ∷ saw_none 3 ∷ []) ≡ 2 ∷ 2 ∷ 2 ∷ []
too_many = refl

-- a read that is missing, and one too many
too_few : counts_beside 2 two values (saw 0 9 ∷ []) ≡ 2 ∷ 2 ∷ 2 ∷ []
too_few = refl

one_over : agree 1 two values (saw 0 9 ∷ saw 1 5 ∷ []) ≡ false
one_over = refl

-- what was read isn't thrown away, and no count is made up
not_thrown : counts_beside 2 two values (saw 0 9 ∷ saw 1 5 ∷ []) ≡ 2 ∷ 2 ∷ 2 ∷ [] → ⊥
not_thrown h = cc

not_zero : counts_beside 2 two values (saw 0 9 ∷ saw 1 5 ∷ []) ≡ 0 ∷ 0 ∷ 2 ∷ [] → ⊥
not_zero h = cc
