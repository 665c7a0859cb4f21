-- What is kept of a log, to read the release record off it without looking back.
use Rattle.std.specs.Prelude.{◌≡◌, ℕ, Bool, true, false, not, ◌&&◌, ◌||◌, ◌==◌, if◌then◌else◌, List, [], ◌∷◌, ◌++◌, Option, Some, None, slice_get}
use Rattle.std.specs.List.{flat_map, list_any}
use Rattle.std.specs.HashSet.{HashSet}
use Rattle.fab_base.specs.declared.object.Oid.{Oid}
use Rattle.fab_base.specs.declared.object.Tid.{Tid}
use Rattle.fab_base.specs.FlatMap.{is_among}
use Rattle.fab_net.specs.declared.event.Event.{Event}
use Rattle.fab_net.specs.declared.event.Event.TheVariants as e
use Rattle.fab_net.specs.declared.event.Inner.{Inner}
use Rattle.fab_net.specs.declared.event.Inner.TheVariants as i
use Rattle.fab_net.specs.declared.note.Logged.{Logged}
use Rattle.fab_net.specs.declared.note.Note.{Note}
use Rattle.fab_net.specs.declared.note.Note.TheVariants as note
use Rattle.fab_protocol.specs.Versions.{is_tid}
use Rattle.fab_world.specs.Machine.{node_of}
use Rattle.fab_release.specs.declared.release.Release.{Release}
use Rattle.fab_release.specs.declared.release.Release.TheVariants.{Applied, Crash}
use Rattle.fab_release.specs.declared.release.Released.{Released}
use Rattle.fab_release.specs.Record.{changes_of, is_in_view, of_note, received, recovered, said, seen_by, unless_in}
use Rattle.fab_release.specs.Sights.{Sight}
use Rattle.fab_record.specs.declared.past.Past.{Past}
use Rattle.fab_record.specs.declared.changes.ChangedAt.{ChangedAt}

-- the same names are among these and those
abbrev pub AreSame : List Oid → List Oid → Type 0
AreSame os ps = (o : Oid) → is_among o os ≡ is_among o ps

-- the object of a touch, if that is in view
abbrev pub seen_touch : Sight → ℕ × Oid × ℕ → List Oid
seen_touch sight t = if is_in_view sight t then t.1 ∷ [] else []

abbrev pub names_in : {S : Type 0} → Option (HashSet Oid S) → List Oid
names_in None = []
names_in (Some names) = names.keys

-- the set of a number, empty where there is none
abbrev pub names_at : {S : Type 0} → List (HashSet Oid S) → ℕ → List Oid
names_at sets n = names_in (slice_get sets n)

-- the objects that an attempt of the worker of this number has touched in view
abbrev pub touched_at : Past → ℕ → List Oid
touched_at past n = names_at past.touched.items n

-- an attempt, at a store
abbrev pub at_store : Tid → ℕ → ChangedAt
at_store t s = record { worker = t.worker; boot = t.boot; number = t.number; store = s }

abbrev pub is_one : ChangedAt → ChangedAt → Bool
is_one a b = (a.worker == b.worker) && ((a.boot == b.boot) && ((a.number == b.number) && (a.store == b.store)))

abbrev pub is_noted : ChangedAt → List ChangedAt → Bool
is_noted a = list_any (λ b. is_one b a)

-- the attempt has changed an object of a seen class at the store
abbrev pub has_changed : Past → ℕ → Tid → Bool
has_changed past s t = is_noted (at_store t s) past.changed.keys

-- behind more changes, of which the test says at which store which attempt made one
abbrev pub NotesMore : List ChangedAt → List ChangedAt → (ℕ → Tid → Bool) → Type 0
NotesMore old new more = (s : ℕ) (t : Tid) → is_noted (at_store t s) new ≡ (is_noted (at_store t s) old || more s t)

-- an object of a seen class at the store
abbrev pub is_shown_at : Sight → ℕ → Oid → Bool
is_shown_at sight s o = (o.store == s) && sight.shows o.class

-- that was changed in the attempt
abbrev pub changes : Sight → Tid → ℕ → Tid → Oid → Bool
changes sight u s t o = is_tid u t && is_shown_at sight s o

-- this is what is kept of the log
pub record IsPast (sight : Sight) (log : List Logged) (past : Past) : Type 0 where
  pub touched : (n : ℕ) → AreSame (touched_at past n) (seen_by sight n log)
  pub changed : (s : ℕ) (t : Tid) → has_changed past s t ≡ list_any (is_shown_at sight s) (changes_of t log)

-- ---- what an event releases, read off what is kept

module _ (sight : Sight) (past : Past) where
  abbrev pub kept_note : ℕ → Note → List Release
  kept_note n (note.Applied t) = if not (sight.has t.worker) && has_changed past n t then Applied n t ∷ [] else []
  kept_note n x = of_note sight n (touched_at past n) [] x

  abbrev pub kept_inner : Inner → List ℕ → List Note → List Release
  kept_inner inner bytes notes = received sight inner bytes ++ flat_map (kept_note (node_of inner)) notes ++ recovered sight inner

  abbrev pub kept_done : Inner → Logged → List Released
  kept_done inner x = unless_in sight (node_of inner) (said sight false (kept_inner inner x.bytes x.notes))

  abbrev pub kept_cut : Inner → Logged → List Released
  kept_cut inner x =
      unless_in sight (node_of inner)
      ((if x.whole then said sight true (kept_inner inner x.bytes x.notes) else []) ++ said sight false (Crash (node_of inner) ∷ []))

  abbrev pub kept_event : Event → Logged → List Released
  kept_event (e.Begin n) x = kept_done (i.Begin n) x
  kept_event (e.Resume n) x = kept_done (i.Resume n) x
  kept_event (e.Deliver a b) x = kept_done (i.Deliver a b) x
  kept_event (e.Idle n s) x = kept_done (i.Idle n s) x
  kept_event (e.Recover n) x = kept_done (i.Recover n) x
  kept_event (e.CrashIn keep inner) x = kept_cut inner x
  kept_event (e.Crash n) x = unless_in sight n (said sight false (Crash n ∷ []))
  kept_event (e.Post h) x = []
