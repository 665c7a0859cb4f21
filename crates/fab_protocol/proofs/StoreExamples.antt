-- A store alone: each reason to refuse, in order; what is dropped; what a new boot frees.
use Rattle.std.proofs.Common.{◌≡◌, ◌≤◌, ℕ, length, List, [], ◌∷◌, ◌++◌, map, pos, Some, None, refl, lit≤, true, false, true≢false}
use Rattle.fab_base.specs.declared.object.Oid.{Oid}
use Rattle.fab_base.specs.declared.object.Object.{Object as Thing}
use Rattle.fab_base.specs.declared.object.Tid.{Tid}
use Rattle.fab_base.specs.declared.message.Items.{Items}
use Rattle.fab_base.specs.declared.message.Message.TheVariants.{Fetch, Object, Deny, Prepare, Vote, Commit, Abort, Boot, Inquire}
use Rattle.fab_base.specs.declared.object.Value.{Value}
use Rattle.fab_base.specs.declared.object.Value.TheVariants.{Int, Null, Ref}
use Rattle.fab_net.specs.declared.note.Note.TheVariants as note
use Rattle.fab_base.specs.declared.message.Answer.{Answer}
use Rattle.fab_base.specs.declared.message.Answer.TheVariants as answer
use Rattle.fab_base.specs.declared.message.Why.TheVariants as why
use Rattle.fab_base.specs.declared.entry.Entry.TheVariants as e
use Rattle.std.specs.List.{AllByRecursion}
use Rattle.std.proofs.lemmas.List.Elements.{All-from_recursion}
use Rattle.fab_base.specs.FieldSpelling.{KeepsItems}
use Rattle.fab_base.specs.Tids.{is_above}
use Rattle.fab_protocol.specs.Versions.{risen}
use Rattle.fab_protocol.specs.Stores.{Shelf, shelf_at_start, keeps, vote, says, asks, silent, replies, records, votes, start_of, last_of}
use Rattle.fab_protocol.specs.Shelves.{IsShelf}
use Rattle.fab_protocol.specs.Tables.{row_of}
use Rattle.fab_protocol.specs.Versions.{name_of}
use Rattle.fab_protocol.proofs.Commits.{written, unchanged}
use Rattle.fab_protocol.proofs.ShelfKept.{start_is, shelf_keeps}
use Rattle.fab_protocol.proofs.Toy.{account, box, holding, accounts, attempt, made, rights}

abbrev t : Tid
t = attempt 0 1 1

abbrev other : Tid
other = attempt 3 1 1

abbrev S : Shelf
S = shelf_at_start (accounts (pos 100) (pos 0)) 1

abbrev items : List (Oid × ℕ) → List (Oid × ℕ × Thing) → List (Oid × Thing) → Items
items reads writes creates = record { reads = reads; writes = writes; creates = creates }

-- a box that this attempt makes
abbrev boxed : Tid → Oid
boxed t = record (made t) { store = 4; class = 1 }

abbrev one : Thing
one = holding (pos 1)

-- what store 1 votes on these items of worker 0's first attempt
abbrev voted : Shelf → List (Oid × ℕ) → List (Oid × ℕ × Thing) → List (Oid × Thing) → Answer
voted shelf reads writes creates = vote rights 1 0 t (items reads writes creates) shelf

-- ---- reasons

current_is_fine : voted S ((account 0, 1) ∷ []) ((account 1, 1, one) ∷ []) ((made t, one) ∷ []) ≡ answer.Yes
current_is_fine = refl

other_store : voted S ((box, 1) ∷ []) [] [] ≡ answer.IllFormed box
other_store = refl

unknown_class : voted S ((record (account 0) { class = 7 }, 1) ∷ []) [] [] ≡ answer.IllFormed (record (account 0) { class = 7 })
unknown_class = refl

out_of_order : voted S ((account 1, 1) ∷ (account 0, 1) ∷ []) [] [] ≡ answer.IllFormed (account 0)
out_of_order = refl

twice : voted S [] ((account 0, 1, one) ∷ (account 0, 1, one) ∷ []) [] ≡ answer.IllFormed (account 0)
twice = refl

in_earlier_list : voted S ((account 0, 1) ∷ []) ((account 0, 1, one) ∷ []) [] ≡ answer.IllFormed (account 0)
in_earlier_list = refl

other_class : voted S [] ((account 0, 1, record one { class = 1 }) ∷ []) [] ≡ answer.IllFormed (account 0)
other_class = refl

field_too_few : voted S [] ((account 0, 1, record one { fields = [] }) ∷ []) [] ≡ answer.IllFormed (account 0)
field_too_few = refl

not_of_the_attempt : voted S [] [] ((made (attempt 0 1 2), one) ∷ []) ≡ answer.IllFormed (made (attempt 0 1 2))
not_of_the_attempt = refl

rights_before_versions : vote rights 1 2 (attempt 2 1 1) (items ((account 0, 9) ∷ []) [] []) S ≡ answer.Rights (account 0)
rights_before_versions = refl

-- who may read isn't therefore one who may write or make
write_of_a_reader : vote rights 4 3 (attempt 3 1 1) (items [] ((box, 1, record one { class = 1 }) ∷ []) []) S ≡ answer.Rights box
write_of_a_reader = refl

create_of_a_reader : vote rights 4 3 (attempt 3 1 1) (items [] [] ((boxed (attempt 3 1 1), record one { class = 1 }) ∷ [])) S
    ≡ answer.Rights (boxed (attempt 3 1 1))
create_of_a_reader = refl

object_of_another_class : voted S [] [] ((made t, record one { class = 1 }) ∷ []) ≡ answer.IllFormed (made t)
object_of_another_class = refl

create_in_earlier_list : voted S [] ((account 0, 1, one) ∷ []) ((account 0, one) ∷ []) ≡ answer.IllFormed (account 0)
create_in_earlier_list = refl

-- a note refers to an account where accounts may be, or to nothing
abbrev noted : Value → Answer
noted v = voted S [] [] ((record (made t) { class = 2 }, record { class = 2; fields = v ∷ [] }) ∷ [])

reference : noted (Ref (account 0)) ≡ answer.Yes
reference = refl

no_reference : noted Null ≡ answer.Yes
no_reference = refl

reference_to_another_class : noted (Ref box) ≡ answer.IllFormed (record (made t) { class = 2 })
reference_to_another_class = refl

reference_to_a_wrong_store : noted (Ref (record (account 0) { store = 4 })) ≡ answer.IllFormed (record (made t) { class = 2 })
reference_to_a_wrong_store = refl

number_for_a_reference : noted (Int (pos 1)) ≡ answer.IllFormed (record (made t) { class = 2 })
number_for_a_reference = refl

stale_read : voted S ((account 0, 2) ∷ []) [] [] ≡ answer.Stale (account 0) 1
stale_read = refl

not_there : voted S ((account 9, 0) ∷ []) [] [] ≡ answer.Stale (account 9) 0
not_there = refl

reads_first : voted S ((account 1, 9) ∷ []) ((account 0, 9, one) ∷ []) [] ≡ answer.Stale (account 1) 1
reads_first = refl

writes_before_creates : voted S [] ((account 0, 9, one) ∷ []) ((account 9, one) ∷ []) ≡ answer.Stale (account 0) 1
writes_before_creates = refl

there_already : voted (record S { rows = S.rows ++ (made t, 1, one) ∷ [] }) [] [] ((made t, one) ∷ []) ≡ answer.Exists (made t)
there_already = refl

-- ---- locks

abbrev holds : Items → Shelf
holds these = keeps (e.Prepared other these) S

reader_bars_writer : voted (holds (items ((account 0, 1) ∷ []) [] [])) [] ((account 0, 1, one) ∷ []) [] ≡ answer.Locked other
reader_bars_writer = refl

writer_bars_reader : voted (holds (items [] ((account 0, 1, one) ∷ []) [])) ((account 0, 1) ∷ []) [] [] ≡ answer.Locked other
writer_bars_reader = refl

readers_share : voted (holds (items ((account 0, 1) ∷ []) [] [])) ((account 0, 1) ∷ []) [] [] ≡ answer.Yes
readers_share = refl

prepared_is_no_row : (holds (items [] ((account 0, 1, one) ∷ []) [])).rows ≡ S.rows
prepared_is_no_row = refl

-- of two that bar it, the first
abbrev third : Tid
third = attempt 2 1 1

first_of_two : voted (keeps (e.Prepared third (items ((account 0, 1) ∷ []) [] [])) (holds (items ((account 0, 1) ∷ []) [] []))) [] ((account 0, 1, one) ∷ []) []
    ≡ answer.Locked other
first_of_two = refl

-- ---- fetches

unknown_class_is_missing : says rights 1 0 (Fetch t (record (account 0) { class = 7 })) S ≡ replies 0 (Deny t (record (account 0) { class = 7 }) why.Missing)
unknown_class_is_missing = refl

missing_elsewhere : says rights 1 0 (Fetch t box) S ≡ replies 0 (Deny t box why.Missing)
missing_elsewhere = refl

rights_before_missing : says rights 1 2 (Fetch (attempt 2 1 1) (account 9)) S ≡ replies 2 (Deny (attempt 2 1 1) (account 9) why.Rights)
rights_before_missing = refl

missing_here : says rights 1 0 (Fetch t (account 9)) S ≡ replies 0 (Deny t (account 9) why.Missing)
missing_here = refl

fetched : says rights 1 0 (Fetch t (account 0)) S ≡ replies 0 (Object t (account 0) 1 (holding (pos 100)))
fetched = refl

-- ---- what is dropped

abbrev P : Shelf
P = keeps (e.Prepared t (items [] ((account 0, 1, one) ∷ []) ((made t, one) ∷ []))) (holds (items ((account 1, 1) ∷ []) [] []))

tid_of_another : says rights 1 3 (Commit t) P ≡ silent
tid_of_another = refl

prepare_of_another : says rights 1 3 (Prepare t (items [] [] [])) S ≡ silent
prepare_of_another = refl

abort_of_another : says rights 1 3 (Abort t) P ≡ silent
abort_of_another = refl

fetch_of_another : says rights 1 3 (Fetch t (account 0)) S ≡ silent
fetch_of_another = refl

from_a_store : says rights 1 4 (Boot 9) P ≡ silent
from_a_store = refl

not_prepared : says rights 1 0 (Commit (attempt 0 1 2)) P ≡ silent
not_prepared = refl

kind_of_a_store : says rights 1 0 (Inquire t) P ≡ silent
kind_of_a_store = refl

same_boot_again : says rights 1 0 (Boot 2) (keeps (e.BootSeen 0 2) P) ≡ silent
same_boot_again = refl

old_tid : says rights 1 0 (Prepare t (items [] [] [])) P ≡ votes 0 t (answer.OldTid t) None
old_tid = refl

-- a later boot is above each number of an earlier one
later_boot : is_above (attempt 0 2 1) (attempt 0 1 5) ≡ true
later_boot = refl

earlier_boot : is_above (attempt 0 1 5) (attempt 0 2 1) ≡ false
earlier_boot = refl

-- ---- what is done

-- the vote, its record and its note
says_yes : says rights 1 0 (Prepare t (items ((account 0, 1) ∷ []) [] [])) S ≡ record {
  entry = Some (e.Prepared t (items ((account 0, 1) ∷ []) [] []));
  sends = (0, Vote t answer.Yes) ∷ [];
  notes = note.Voted t 0 answer.Yes ∷ [];
}
says_yes = refl

says_no : says rights 1 0 (Prepare t (items ((account 0, 2) ∷ []) [] [])) S ≡ record {
  entry = Some (e.Refused t);
  sends = (0, Vote t (answer.Stale (account 0) 1)) ∷ [];
  notes = note.Voted t 0 (answer.Stale (account 0) 1) ∷ [];
}
says_no = refl

says_old : says rights 1 0 (Prepare t (items [] [] [])) P
    ≡ record { entry = None; sends = (0, Vote t (answer.OldTid t)) ∷ []; notes = note.Voted t 0 (answer.OldTid t) ∷ [] }
says_old = refl

says_applied : says rights 1 0 (Commit t) P ≡ record { entry = Some (e.Applied t); sends = []; notes = note.Applied t ∷ [] }
says_applied = refl

says_released : says rights 1 0 (Abort t) P ≡ record { entry = Some (e.Released t); sends = []; notes = [] }
says_released = refl

says_boot : says rights 1 0 (Boot 2) P ≡ record { entry = Some (e.BootSeen 0 2); sends = []; notes = [] }
says_boot = refl

-- a boot is measured against the last boot, and not against that of the last tid
after_a_later_tid : says rights 1 0 (Boot 3) (keeps (e.Refused (attempt 0 5 1)) S) ≡ record { entry = Some (e.BootSeen 0 3); sends = []; notes = [] }
after_a_later_tid = refl

-- ---- records

refused_sets_last : last_of (keeps (e.Refused t) S) 0 ≡ t
refused_sets_last = refl

greatest_stays : risen 4294967295 ≡ 4294967295
greatest_stays = refl

released_is_gone : map (λ p. p.0) (keeps (e.Released t) P).prepared ≡ other ∷ []
released_is_gone = refl

applied : (keeps (e.Applied t) P).rows ≡ (made t, 1, one) ∷ (account 0, 2, one) ∷ (account 1, 1, holding (pos 0)) ∷ []
applied = refl

applied_is_gone : map (λ p. p.0) (keeps (e.Applied t) P).prepared ≡ other ∷ []
applied_is_gone = refl

released : (keeps (e.Released t) P).rows ≡ P.rows
released = refl

boot_frees_its_own : map (λ p. p.0) (keeps (e.BootSeen 0 2) P).prepared ≡ other ∷ []
boot_frees_its_own = refl

boot_sets_last : last_of (keeps (e.BootSeen 0 2) P) 0 ≡ start_of 0 2
boot_sets_last = refl

asks_in_order : (asks P).sends ≡ (3, Inquire other) ∷ (0, Inquire t) ∷ []
asks_in_order = refl

-- ---- what holds of shelves

start_is_shelf : IsShelf rights 1 S
start_is_shelf = record {
  ascending = refl;
  rows_here = (refl, (refl, tt));
  versions = (lit≤ tt, (lit≤ tt, tt));
  senders = tt;
  tids = tt;
  items_here = tt;
  current = tt;
  apart = tt;
  once = tt;
  allowed = tt;
  suited = tt;
  fields = (lit≤ tt, (lit≤ tt, tt));
  counts = tt;
  remembered = refl;
}

-- items whose counts are few, and whose objects have few fields
few : (these : Items) → length these.reads ≤ 1024 → length these.writes ≤ 256 → AllByRecursion (λ (w : Oid × ℕ × Thing). length w.2.fields ≤ 16) these.writes
    → length these.creates ≤ 256 → AllByRecursion (λ (c : Oid × Thing). length c.1.fields ≤ 16) these.creates → KeepsItems these
few these reads writes written creates created = record {
  reads = reads;
  writes = writes;
  written = All-from_recursion (λ (w : Oid × ℕ × Thing). length w.2.fields ≤ 16) these.writes written;
  creates = creates;
  created = All-from_recursion (λ (c : Oid × Thing). length c.1.fields ≤ 16) these.creates created;
}

prepared_is_shelf : IsShelf rights 1 P
prepared_is_shelf = record {
  ascending = refl;
  rows_here = (refl, (refl, tt));
  versions = (lit≤ tt, (lit≤ tt, tt));
  senders = (refl, (refl, tt));
  tids = (refl, (refl, tt));
  items_here = ((refl, tt), ((refl, (refl, tt)), tt));
  current = ((refl, tt), ((refl, (refl, tt)), tt));
  apart = (((refl, (refl, tt)), tt), (tt, tt));
  once = ((refl, tt), ((refl, (refl, tt)), tt));
  allowed = ((refl, tt), ((refl, (refl, tt)), tt));
  suited = ((refl, tt), ((refl, (refl, tt)), tt));
  fields = (lit≤ tt, (lit≤ tt, tt));
  counts = (
    few (items ((account 1, 1) ∷ []) [] []) (lit≤ tt) (lit≤ tt) tt (lit≤ tt) tt,
    (few (items [] ((account 0, 1, one) ∷ []) ((made t, one) ∷ [])) (lit≤ tt) (lit≤ tt) (lit≤ tt, tt) (lit≤ tt) (lit≤ tt, tt), tt),
  );
  remembered = refl;
}

-- two that write one object don't make one
abbrev writes_one : Items
writes_one = items [] ((account 0, 1, one) ∷ []) []

two_writers : IsShelf rights 1 (keeps (e.Prepared t writes_one) (holds writes_one)) → ⊥
two_writers h = true≢false (h.apart.0.0.1.0)

-- nor does one that writes an object twice
twice_is_no_shelf : IsShelf rights 1 (record S { prepared = (t, items [] ((account 0, 1, one) ∷ (account 0, 1, one) ∷ []) []) ∷ [] }) → ⊥
twice_is_no_shelf h = true≢false h.once.0.0

-- nor what a worker prepared that may not write it, an object of another class than its name, or a name of another attempt
not_allowed : IsShelf rights 1 (record S { prepared = (attempt 2 1 1, writes_one) ∷ [] }) → ⊥
not_allowed h = true≢false h.allowed.0.0

not_suited : IsShelf rights 1 (record S { prepared = (t, items [] ((account 0, 1, record one { class = 1 }) ∷ []) []) ∷ [] }) → ⊥
not_suited h = true≢false h.suited.0.0

other_maker : IsShelf rights 1 (record S { prepared = (t, items [] [] ((made (attempt 0 1 2), one) ∷ [])) ∷ [] }) → ⊥
other_maker h = true≢false h.suited.0.0

-- ---- laws

-- the roots of the setting are as the law of starts wants them
from_start : IsShelf rights 1 S
from_start = start_is rights (accounts (pos 100) (pos 0)) 1 refl (lit≤ tt, (lit≤ tt, tt))

-- a vote that holds two items at once
abbrev both_items : Items
both_items = items [] ((account 0, 1, one) ∷ []) ((made t, one) ∷ [])

behind_a_yes : IsShelf rights 1 (keeps (e.Prepared t both_items) S)
behind_a_yes =
    shelf_keeps rights 1 (e.Prepared t both_items) S (lit≤ tt)
    (refl, refl, few both_items (lit≤ tt) (lit≤ tt) (lit≤ tt, tt) (lit≤ tt) (lit≤ tt, tt), refl) from_start

commit_writes : row_of name_of (keeps (e.Applied t) P).rows (account 0) ≡ Some (account 0, 2, one)
commit_writes = written rights 1 P prepared_is_shelf t both_items (1, lit≤ tt, refl) (account 0, 1, one) (0, lit≤ tt, refl)

commit_leaves : row_of name_of (keeps (e.Applied t) P).rows (account 1) ≡ Some (account 1, 1, holding (pos 0))
commit_leaves = unchanged rights 1 P prepared_is_shelf t both_items (1, lit≤ tt, refl) (account 1) refl

-- of a number past the nodes nothing is remembered, so its next attempt would be new again
past_the_nodes : last_of (keeps (e.Refused (attempt 64 1 1)) S) 64 ≡ start_of 64 0
past_the_nodes = refl

-- a boot that is heard behind its first attempt frees that attempt, whose tid is new again
abbrev late : Shelf
late = keeps (e.BootSeen 0 1) P

late_boot_frees : map (λ p. p.0) late.prepared ≡ other ∷ []
late_boot_frees = refl

late_boot_forgets : is_above t (last_of late 0) ≡ true
late_boot_forgets = refl

late_boot_is_heard : says rights 1 0 (Boot 1) P ≡ records (e.BootSeen 0 1) []
late_boot_is_heard = refl
