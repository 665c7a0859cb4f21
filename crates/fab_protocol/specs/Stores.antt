-- A store: its shelf, what a record changes of it, and what it does with a message.
--
-- A shelf is the fold of the store's records over the roots, so what a crash leaves of the journal says what the
-- store is after recovery. Votes follow the two-phase commit of Fabric: what was read or written is at the current
-- version, and is locked from the vote to the end.
use Rattle.std.specs.Prelude.{ℕ, Bool, true, false, not, ◌&&◌, ◌||◌, ◌==◌, nat_lt, if◌then◌else◌}
use Rattle.std.specs.Prelude.{List, [], ◌∷◌, ◌++◌, map, Option, Some, None, fold, slice_get, slice_set, unwrap_or, option_map}
use Rattle.std.specs.List.{filter, flat_map, list_any, range_with_len}
use Rattle.fab_base.specs.declared.object.Oid.{Oid}
use Rattle.fab_base.specs.declared.object.Object.{Object}
use Rattle.fab_base.specs.declared.object.Tid.{Tid}
use Rattle.fab_base.specs.declared.message.Items.{Items}
use Rattle.fab_base.specs.declared.message.Why.TheVariants as why
use Rattle.fab_base.specs.declared.message.Answer.{Answer}
use Rattle.fab_base.specs.declared.message.Answer.TheVariants.{Yes, Stale, Locked, Rights as NoRights, OldTid, IllFormed, Exists}
use Rattle.fab_base.specs.declared.message.Message.{Message}
use Rattle.fab_base.specs.declared.message.Message.TheVariants as m
use Rattle.fab_base.specs.declared.entry.Entry.{Entry}
use Rattle.fab_base.specs.declared.entry.Entry.TheVariants as e
use Rattle.fab_base.specs.FlatMap.{FlatMap, is_before, is_among}
use Rattle.fab_base.specs.JournalSpelling.{record_bytes}
use Rattle.fab_base.specs.MessageSpelling.{spelled}
use Rattle.fab_base.specs.Tids.{is_above}
use Rattle.fab_net.specs.declared.note.Note.{Note}
use Rattle.fab_net.specs.declared.note.Step.{Step}
use Rattle.fab_net.specs.declared.note.Note.TheVariants as note
use Rattle.fab_rights.specs.declared.rights.Rights.{Rights}
use Rattle.fab_rights.specs.Computed.{is_worker, knows, may_fetch, may_write, suits}
use Rattle.fab_protocol.specs.declared.said.Said.{Said}
use Rattle.fab_protocol.specs.declared.sender.Sender.{Sender}
use Rattle.fab_protocol.specs.Tables.{row_of, placed_all}
use Rattle.fab_protocol.specs.Versions.{Row, Rows, name_of, version_of, begun, is_tid, is_made_in, left_by}

-- A transaction that is prepared: its tid, and its items.
abbrev pub Prepared : Type 0
Prepared = Tid × Items

-- The current objects, ascending; the prepared transactions, in order; what is remembered of senders, by number.
pub record Shelf : Type 0 where
  pub rows : Rows
  pub prepared : List Prepared
  pub senders : List Sender

-- ---- senders: a number of which nothing is remembered has no boot and no attempt

-- before a worker's first attempt in a boot
abbrev pub start_of : ℕ → ℕ → Tid
start_of worker boot = record { worker = worker; boot = boot; number = 0 }

abbrev pub unheard : ℕ → Sender
unheard n = record { last = start_of n 0; boot = 0 }

abbrev pub sender_in : List Sender → ℕ → Sender
sender_in senders n = unwrap_or (slice_get senders n) (unheard n)

abbrev pub last_of : Shelf → ℕ → Tid
last_of shelf n = (sender_in shelf.senders n).last

abbrev pub boot_of : Shelf → ℕ → ℕ
boot_of shelf n = (sender_in shelf.senders n).boot

-- the last tid of a sender is this one
abbrev pub with_last : Tid → List Sender → List Sender
with_last t senders = slice_set senders t.worker (record (sender_in senders t.worker) { last = t })

-- a sender has begun this boot
abbrev pub with_boot : ℕ → ℕ → List Sender → List Sender
with_boot w b senders = slice_set senders w (record { last = start_of w b; boot = b })

-- ---- records

abbrev pub prepared_as : Tid → List Prepared → List Prepared
prepared_as t ps = filter (λ p. is_tid p.0 t) ps

abbrev pub without : Tid → List Prepared → List Prepared
without t ps = filter (λ p. not (is_tid p.0 t)) ps

-- the rows behind these transactions
abbrev pub behind : List Prepared → Rows → Rows
behind ps rows = placed_all name_of (flat_map (λ p. left_by p.1) ps) rows

abbrev pub keeps : Entry → Shelf → Shelf
keeps (e.Prepared t items) shelf = record shelf { prepared = shelf.prepared ++ (t, items) ∷ []; senders = with_last t shelf.senders }
keeps (e.Refused t) shelf = record shelf { senders = with_last t shelf.senders }
keeps (e.Applied t) shelf = record shelf { rows = behind (prepared_as t shelf.prepared) shelf.rows; prepared = without t shelf.prepared }
keeps (e.Released t) shelf = record shelf { prepared = without t shelf.prepared }
keeps (e.BootSeen w b) shelf = record shelf {
  prepared = filter (λ p. not (p.0.worker == w)) shelf.prepared;
  senders = with_boot w b shelf.senders;
}
keeps _ shelf = shelf

-- the roots that are here, at version 1
abbrev pub shelf_at_start : FlatMap → ℕ → Shelf
shelf_at_start roots s = record {
  rows = map begun (filter (λ root. root.0.store == s) roots);
  prepared = [];
  senders = map unheard (range_with_len 0 64);
}

-- the shelf behind some records
unfoldable pub shelf_of : FlatMap → ℕ → List Entry → Shelf
shelf_of roots s entries = fold (λ shelf entry. keeps entry shelf) (shelf_at_start roots s) entries

-- ---- the items of a Prepare

pub data Item : Type 0 where
  Read : Oid → ℕ → Item
  Write : Oid → ℕ → Object → Item
  Create : Oid → Object → Item

abbrev pub item_name : Item → Oid
item_name (Read o version) = o
item_name (Write o version x) = o
item_name (Create o x) = o

abbrev pub reads_in : Items → List Item
reads_in items = map (λ r. Read r.0 r.1) items.reads

abbrev pub writes_in : Items → List Item
writes_in items = map (λ w. Write w.0 w.1 w.2) items.writes

abbrev pub creates_in : Items → List Item
creates_in items = map (λ c. Create c.0 c.1) items.creates

abbrev pub all_in : Items → List Item
all_in items = reads_in items ++ writes_in items ++ creates_in items

-- the names that items write or create, and all of them
abbrev pub changed_by : Items → List Oid
changed_by items = map item_name (writes_in items ++ creates_in items)

abbrev pub named_by : Items → List Oid
named_by items = map item_name (all_in items)

-- ---- why an item is refused: four kinds of reasons, in order

-- the name isn't above the one before it in its list
abbrev pub is_out_of_order : Option Oid → Oid → Bool
is_out_of_order None o = false
is_out_of_order (Some before) o = not (is_before before o)

-- the object isn't well formed or is of another class; a created name isn't the attempt's
abbrev pub is_unsuited : Rights → Tid → Item → Bool
is_unsuited rights t (Read o version) = false
is_unsuited rights t (Write o version x) = not (suits rights o x)
is_unsuited rights t (Create o x) = not (suits rights o x && is_made_in t o)

-- 1: ill formed, at a store, behind the names of earlier lists and the name before it in its own
abbrev pub is_ill_formed : Rights → ℕ → Tid → List Oid → Option Oid → Item → Bool
is_ill_formed rights s t earlier before i =
    not ((item_name i).store == s) || not (knows rights (item_name i).class) || is_out_of_order before (item_name i)
    || is_among (item_name i) earlier || is_unsuited rights t i

-- 2: a sender without the right
abbrev pub lacks_right : Rights → ℕ → Item → Bool
lacks_right rights n (Read o version) = not (may_fetch rights n o.class)
lacks_right rights n i = not (may_write rights n (item_name i).class)

-- 3: not at the current version, which is 0 where the object isn't there; or there already
abbrev pub is_stale : ℕ → ℕ → Bool
is_stale current version = (current == 0) || not (version == current)

abbrev pub out_of_date : Rows → Item → Bool × Answer
out_of_date rows (Read o version) = (is_stale (version_of rows o) version, Stale o (version_of rows o))
out_of_date rows (Write o version x) = (is_stale (version_of rows o) version, Stale o (version_of rows o))
out_of_date rows (Create o x) = (nat_lt 0 (version_of rows o), Exists o)

-- 4: a prepared transaction has the same name, and one of the two writes or creates it
abbrev pub is_locked_by : Item → Items → Bool
is_locked_by (Read o version) items = is_among o (changed_by items)
is_locked_by i items = is_among (item_name i) (named_by items)

abbrev pub locked : List Prepared → Item → List (Bool × Answer)
locked prepared i = map (λ p. (is_locked_by i p.1, Locked p.0)) prepared

-- the reasons to refuse one item: at a store, of a sender, in an attempt, over a shelf
abbrev pub reasons_of : Rights → ℕ → ℕ → Tid → Shelf → List Oid → Option Oid → Item → List (Bool × Answer)
reasons_of rights s n t shelf earlier before i =
    (is_ill_formed rights s t earlier before i, IllFormed (item_name i)) ∷ (lacks_right rights n i, NoRights (item_name i))
    ∷ out_of_date shelf.rows i ∷ locked shelf.prepared i

abbrev pub reasons_in : Rights → ℕ → ℕ → Tid → Shelf → List Oid → Option Oid → List Item → List (Bool × Answer)
reasons_in rights s n t shelf earlier before [] = []
reasons_in rights s n t shelf earlier before (i ∷ is) =
    reasons_of rights s n t shelf earlier before i ++ reasons_in rights s n t shelf earlier (Some (item_name i)) is

-- every reason to refuse a Prepare, in the order in which they are tried, item by item
abbrev pub reasons : Rights → ℕ → ℕ → Tid → Items → Shelf → List (Bool × Answer)
reasons rights s n t items shelf =
    reasons_in rights s n t shelf [] None (reads_in items)
    ++ reasons_in rights s n t shelf (map item_name (reads_in items)) None (writes_in items)
    ++ reasons_in rights s n t shelf (map item_name (reads_in items ++ writes_in items)) None (creates_in items)

-- the first that holds answers; without any the vote is Yes
abbrev pub first_of : List (Bool × Answer) → Answer
first_of [] = Yes
first_of (r ∷ rs) = if r.0 then r.1 else first_of rs

abbrev pub vote : Rights → ℕ → ℕ → Tid → Items → Shelf → Answer
vote rights s n t items shelf = first_of (reasons rights s n t items shelf)

-- ---- messages

abbrev pub silent : Said
silent = record { entry = None; sends = []; notes = [] }

abbrev pub replies : ℕ → Message → Said
replies n message = record silent { sends = (n, message) ∷ [] }

abbrev pub records : Entry → List Note → Said
records entry notes = record silent { entry = Some entry; notes = notes }

abbrev pub votes : ℕ → Tid → Answer → Option Entry → Said
votes n t answer entry = record { entry = entry; sends = (n, m.Vote t answer) ∷ []; notes = note.Voted t n answer ∷ [] }

-- the record of a vote on what was new
abbrev pub voted : Tid → Items → Answer → Entry
voted t items Yes = e.Prepared t items
voted t items _ = e.Refused t

-- an object that is there, or not
abbrev pub found : ℕ → Tid → Oid → Option Row → Said
found n t o None = replies n (m.Deny t o why.Missing)
found n t o (Some row) = replies n (m.Object t o row.1 row.2)

abbrev pub is_prepared : Tid → Shelf → Bool
is_prepared t shelf = list_any (λ p. is_tid p.0 t) shelf.prepared

-- a message that workers send, and with a tid of the sender
abbrev pub is_own : ℕ → Message → Bool
is_own n (m.Fetch t o) = t.worker == n
is_own n (m.Prepare t items) = t.worker == n
is_own n (m.Commit t) = t.worker == n
is_own n (m.Abort t) = t.worker == n
is_own n (m.Boot b) = true
is_own n _ = false

-- store s, sender n
module _ (rights : Rights) (s n : ℕ) where
  abbrev pub fetched : Tid → Oid → Shelf → Said
  fetched t o shelf =
      if not (o.store == s) || not (knows rights o.class) then replies n (m.Deny t o why.Missing)
      else (if not (may_fetch rights n o.class) then replies n (m.Deny t o why.Rights)
      else found n t o (row_of name_of shelf.rows o))

  abbrev pub asked : Tid → Items → Shelf → Said
  asked t items shelf =
      if not (is_above t (last_of shelf n)) then votes n t (OldTid (last_of shelf n)) None
      else votes n t (vote rights s n t items shelf) (Some (voted t items (vote rights s n t items shelf)))

  abbrev pub does : Message → Shelf → Said
  does (m.Fetch t o) shelf = fetched t o shelf
  does (m.Prepare t items) shelf = asked t items shelf
  does (m.Commit t) shelf = if is_prepared t shelf then records (e.Applied t) (note.Applied t ∷ []) else silent
  does (m.Abort t) shelf = if is_prepared t shelf then records (e.Released t) [] else silent
  does (m.Boot b) shelf = if nat_lt (boot_of shelf n) b then records (e.BootSeen n b) [] else silent
  does _ shelf = silent

  -- what is dropped leaves no reply and no record
  abbrev pub says : Message → Shelf → Said
  says message shelf = if is_worker rights n && is_own n message then does message shelf else silent

  -- of bytes that are read as no message nothing is heard
  abbrev pub hears : Option Message → Shelf → Said
  hears None shelf = silent
  hears (Some message) shelf = says message shelf

-- recovery asks what became of each prepared transaction, in order
abbrev pub asks : Shelf → Said
asks shelf = record silent { sends = map (λ p. (p.0.worker, m.Inquire p.0)) shelf.prepared }

-- the bytes of a record behind others of this version, and of messages
abbrev pub step_of : ℕ → Said → Step
step_of version said = record {
  entry = option_map (record_bytes version) said.entry;
  sends = map (λ x. (x.0, spelled x.1)) said.sends;
  notes = said.notes;
}

-- what a store's record makes of its shelf, if there is one
abbrev pub keeps_said : Option Entry → Shelf → Shelf
keeps_said None shelf = shelf
keeps_said (Some entry) shelf = keeps entry shelf
