-- A worker alone: the parts of an attempt, its caches, votes, answers and inquiries.
use Rattle.std.proofs.Common.{◌≡◌, ℕ, List, [], ◌∷◌, ◌++◌, map, pos, false, Some, None, refl}
use Rattle.std.specs.Prelude.{slice_set}
use Rattle.fab_base.specs.declared.object.Tid.{Tid}
use Rattle.fab_base.specs.declared.message.Message.{Message}
use Rattle.fab_base.specs.declared.message.Message.TheVariants.{Object, Deny, Vote, Commit, Abort, Boot, Inquire}
use Rattle.fab_base.specs.declared.message.Answer.TheVariants.{Yes, Locked}
use Rattle.fab_base.specs.declared.message.Why.TheVariants as why
use Rattle.fab_base.specs.declared.entry.Entry.TheVariants as e
use Rattle.fab_base.specs.FlatMap.{FlatMap}
use Rattle.fab_language.specs.Meaning.{Meant}
use Rattle.fab_language.specs.declared.ending.Ending.TheVariants as means
use Rattle.fab_net.specs.declared.outcome.ReqOutcome.{ReqOutcome}
use Rattle.fab_net.specs.declared.outcome.ReqOutcome.TheVariants.{Failed, Conflict, Silent, Denied, Stopped}
use Rattle.fab_net.specs.declared.outcome.Denial.TheVariants.{Rights, IllFormed}
use Rattle.fab_base.specs.declared.object.Stop.TheVariants as stop
use Rattle.fab_net.specs.declared.note.Note.TheVariants as note
use Rattle.fab_protocol.specs.Versions.{Rows}
use Rattle.fab_protocol.specs.declared.parts.Parts.{Parts}
use Rattle.fab_protocol.specs.Parts.{stores_of, items_at, puts_of}
use Rattle.fab_protocol.specs.Caches.{cached, last_distinct}
use Rattle.fab_world.specs.Attempts.{parts_of}
use Rattle.fab_world.specs.Workers.{Kept, Attempt, Act, Evaluating, Fetching, Preparing, kept_of, fresh, stays, takes, gives_up, wakes, closed}
use Rattle.fab_protocol.proofs.Toy.{account, box, holding, attempt, made, rights}

abbrev t : Tid
t = attempt 0 1 1

-- an attempt that read account 0, wrote the box, and made an account
abbrev answers : Rows
answers = (box, 4, holding (pos 0)) ∷ (account 0, 7, holding (pos 3)) ∷ []

abbrev rows : FlatMap
rows = (made t, holding (pos 1)) ∷ (account 0, holding (pos 3)) ∷ (box, holding (pos 9)) ∷ []

abbrev meant : Meant
meant = record { ending = means.Ended None; map = rows; written = box ∷ []; made = made t ∷ []; touches = (5, box) ∷ (3, account 0) ∷ (6, box) ∷ []; downs = [] }

abbrev P : Parts
P = parts_of answers meant

stores_take_part : stores_of P ≡ 1 ∷ 4 ∷ []
stores_take_part = refl

-- each store is told of its own objects
at_one : items_at P 1 ≡ record { reads = (account 0, 7) ∷ []; writes = []; creates = (made t, holding (pos 1)) ∷ [] }
at_one = refl

at_four : items_at P 4 ≡ record { reads = []; writes = (box, 4, holding (pos 9)) ∷ []; creates = [] }
at_four = refl

-- reads stand in the order of names, whatever was touched first
in_order : (items_at (record P { touched = (account 1, 0) ∷ (account 0, 0) ∷ []; writes = [] }) 1).reads ≡ (account 0, 0) ∷ (account 1, 0) ∷ []
in_order = refl

-- in the order of first touches, as behind the commit; what was made isn't among them
puts_are : puts_of answers P ≡ (box, 5, holding (pos 9)) ∷ (account 0, 7, holding (pos 3)) ∷ []
puts_are = refl

-- ---- caches: each store's own last ones

kept_two : last_distinct 2
    ((account 0, 1, holding (pos 1)) ∷ (account 1, 1, holding (pos 2)) ∷ (account 0, 2, holding (pos 3)) ∷ (account 2, 1, holding (pos 4)) ∷ [])
    ≡ (account 0, 2, holding (pos 3)) ∷ (account 2, 1, holding (pos 4)) ∷ []
kept_two = refl

each_store_its_own : cached 1 ((box, 5, holding (pos 9)) ∷ (account 0, 7, holding (pos 3)) ∷ []) 0
    ([] ∷ ((account 1, 1, holding (pos 0)) ∷ []) ∷ [] ∷ [] ∷ [] ∷ [])
    ≡ [] ∷ ((account 0, 7, holding (pos 3)) ∷ []) ∷ [] ∷ [] ∷ ((box, 5, holding (pos 9)) ∷ []) ∷ []
each_store_its_own = refl

-- ---- events

abbrev K : Kept
K = record { boot = 1; decided = record { tid = attempt 0 1 9; request = 1; stores = 1 ∷ []; value = None } ∷ []; outcomes = [] }

abbrev A : Attempt
A = record fresh { number = 1; answers = answers; caches = slice_set fresh.caches 1 ((account 1, 1, holding (pos 0)) ∷ []) }

abbrev preparing : List ℕ → Attempt
preparing ls = record A { phase = Preparing ls }

abbrev fetching : Attempt
fetching = record A { phase = Fetching (account 1) }

-- worker 0 in attempt a hears a message of store s
abbrev on : Attempt → ℕ → Message → Act
on a s message = takes rights 0 0 K s message a P

-- without a commit nothing is left of the answers and the caches
abbrev idle : ℕ → Attempt
idle tries = record fresh { number = 1; tries = tries }

-- ---- votes

first_yes : on (preparing (1 ∷ 4 ∷ [])) 4 (Vote t Yes) ≡ stays (preparing (1 ∷ []))
first_yes = refl

yes_twice : on (preparing (1 ∷ [])) 4 (Vote t Yes) ≡ stays (preparing (1 ∷ []))
yes_twice = refl

last_yes : (on (preparing (1 ∷ [])) 1 (Vote t Yes)).entry ≡ Some (e.Decided t 1 None (1 ∷ 4 ∷ []))
last_yes = refl

then_commits : (on (preparing (1 ∷ [])) 1 (Vote t Yes)).sends ≡ (1, Commit t) ∷ (4, Commit t) ∷ []
then_commits = refl

from_a_worker : on (preparing (1 ∷ [])) 3 (Vote t Yes) ≡ stays (preparing (1 ∷ []))
from_a_worker = refl

-- an attempt without a part at store 4
only_at_one : takes rights 0 0 K 4 (Vote t (Locked t)) (preparing (1 ∷ [])) (record P { touched = (account 0, 7) ∷ []; writes = []; creates = [] }) ≡ stays (preparing (1 ∷ []))
only_at_one = refl

of_another_attempt : on (preparing (1 ∷ [])) 1 (Vote (attempt 0 1 2) Yes) ≡ stays (preparing (1 ∷ []))
of_another_attempt = refl

no_after_yes : (on (preparing (1 ∷ [])) 4 (Vote t (Locked t))).attempt ≡ idle 1
no_after_yes = refl

then_aborts : (on (preparing (1 ∷ [])) 4 (Vote t (Locked t))).sends ≡ (1, Abort t) ∷ (4, Abort t) ∷ []
then_aborts = refl

-- ---- answers to a Fetch

taken : on fetching 1 (Object t (account 1) 2 (holding (pos 8)))
    ≡ stays (record A { phase = Evaluating; answers = answers ++ (account 1, 2, holding (pos 8)) ∷ [] })
taken = refl

version_zero : (on fetching 1 (Object t (account 1) 0 (holding (pos 8)))).entry ≡ Some (e.Closed 1 5 1)
version_zero = refl

from_another_store : on fetching 4 (Object t (account 1) 2 (holding (pos 8))) ≡ stays fetching
from_another_store = refl

another_object : on fetching 1 (Object t (account 0) 2 (holding (pos 8))) ≡ stays fetching
another_object = refl

-- no store has an object yet that this attempt, or a later one, will make
own_object : (on (record A { phase = Fetching (made t) }) 1 (Object t (made t) 1 (holding (pos 8)))).entry ≡ Some (e.Closed 1 5 1)
own_object = refl

no_rights : (on fetching 1 (Deny t (account 1) why.Rights)).entry ≡ Some (e.Closed 1 4 1)
no_rights = refl

rights_empty_caches : (on fetching 1 (Deny t (account 1) why.Rights)).attempt ≡ idle 0
rights_empty_caches = refl

missing : on fetching 1 (Deny t (account 1) why.Missing) ≡ record { entry = None; attempt = idle 1; sends = []; notes = note.Decided t 1 false answers ∷ [] }
missing = refl

-- ---- inquiries

decided_before : (on fetching 1 (Inquire (attempt 0 1 9))).sends ≡ (1, Commit (attempt 0 1 9)) ∷ []
decided_before = refl

decided_elsewhere : (on fetching 4 (Inquire (attempt 0 1 9))).sends ≡ (4, Abort (attempt 0 1 9)) ∷ []
decided_elsewhere = refl

counts_as_yes : on (preparing (1 ∷ 4 ∷ [])) 4 (Inquire t) ≡ stays (preparing (1 ∷ []))
counts_as_yes = refl

not_preparing : (on fetching 1 (Inquire t)).sends ≡ (1, Abort t) ∷ []
not_preparing = refl

asked_by_a_worker : on fetching 3 (Inquire t) ≡ stays fetching
asked_by_a_worker = refl

of_another_worker : on fetching 1 (Inquire (attempt 3 1 1)) ≡ stays fetching
of_another_worker = refl

-- ---- silence and recovery

gives_up_preparing : gives_up rights 0 0 K 1 (preparing (1 ∷ [])) P ≡ record {
  entry = Some (e.Closed 1 3 1);
  attempt = idle 0;
  sends = (1, Abort t) ∷ (4, Abort t) ∷ [];
  notes = note.Decided t 1 false answers ∷ note.Closed 1 (Silent 1) ∷ [];
}
gives_up_preparing = refl

wakes_up : wakes rights 0 0 K ≡ record {
  entry = Some (e.Boot 2);
  attempt = fresh;
  sends = (1, Commit (attempt 0 1 9)) ∷ (1, Boot 2) ∷ (4, Boot 2) ∷ [];
  notes = [];
}
wakes_up = refl

-- a boot counts Boot records, whatever their numbers
boots_count : (kept_of (e.Boot 7 ∷ e.Closed 1 3 4 ∷ e.Boot 7 ∷ [])) ≡ record { boot = 3; decided = []; outcomes = Silent 4 ∷ [] }
unfolding kept_of
boots_count = refl

-- each outcome that is closed is read back from its record
abbrev closable : List ReqOutcome
closable =
    Failed ∷ Conflict ∷ Silent 4 ∷ Denied 4 Rights ∷ Denied 4 IllFormed ∷ Stopped stop.Fuel ∷ Stopped stop.Depth ∷ Stopped stop.Reads ∷ Stopped stop.Writes ∷ []

read_back : (kept_of (map (closed 1) closable)).outcomes ≡ closable
unfolding kept_of
read_back = refl
