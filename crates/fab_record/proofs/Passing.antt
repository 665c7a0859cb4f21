-- What is kept of a log behind one more event, and what an event releases by it.
use Rattle.std.proofs.Common.{◌≡◌, ℕ, ◌+◌, ◌<◌, true, false, not, ◌&&◌, ◌||◌, ◌==◌, if◌then◌else◌, List, [], ◌∷◌, ◌++◌, fold, drop, take, length, get_or, refl, sym, ap, ◌∙◌, append-nil, append_assoc}
use Rattle.std.specs.List.{flat_map, list_any}
use Rattle.std.proofs.lemmas.Grind.{flat_map-append}
use Rattle.std.proofs.lemmas.List.Sums.{fold-append}
use Rattle.std.proofs.lemmas.List.Folds.{list_any-append}
use Rattle.fab_base.specs.declared.object.Oid.{Oid}
use Rattle.fab_base.specs.declared.object.Tid.{Tid}
use Rattle.fab_base.specs.FlatMap.{is_among}
use Rattle.fab_authority.proofs.Walks.{front}
use Rattle.fab_net.specs.declared.event.Event.{Event}
use Rattle.fab_net.specs.declared.event.Event.TheVariants as e
use Rattle.fab_net.specs.declared.event.Inner.{Inner}
use Rattle.fab_net.specs.declared.event.Inner.TheVariants as i
use Rattle.fab_net.specs.declared.note.Logged.{Logged}
use Rattle.fab_net.specs.declared.note.Note.{Note}
use Rattle.fab_net.specs.declared.note.Note.TheVariants as note
use Rattle.fab_world.specs.Machine.{node_of}
use Rattle.fab_release.specs.declared.release.Release.{Release}
use Rattle.fab_release.specs.declared.release.Release.TheVariants.{Applied, Ask, Crash}
use Rattle.fab_release.specs.declared.release.Release.TheVariants as r
use Rattle.fab_release.specs.declared.release.Released.{Released}
use Rattle.fab_release.specs.Record.{changes_in, changes_of, cut, done, downs_to, is_of, notes_at, of_event}
use Rattle.fab_release.specs.Record.{of_inner, of_note, received, recovered, released_behind, said, seen_behind, seen_by, unless_in}
use Rattle.fab_release.specs.Sights.{Sight}
use Rattle.fab_record.proofs.Naming.{fold_same}
use Rattle.fab_record.proofs.Telling.{gots_alike}
use Rattle.fab_record.specs.declared.past.Past.{Past}
use Rattle.fab_record.specs.Kept.{AreSame, IsPast, NotesMore, is_shown_at, kept_cut, kept_done, kept_event, kept_inner, kept_note, touched_at}

-- ---- one more event

notes_more : (n : ℕ) (log : List Logged) (x : Logged) → notes_at n (log ++ x ∷ []) ≡ notes_at n log ++ (if is_of n x.event then x.notes else [])
notes_more n log x = flat_map-append (λ (y : Logged). if is_of n y.event then y.notes else []) log (x ∷ []) ∙ ap (λ (l : List Note). notes_at n log ++ l) (append-nil _)

changes_more : (t : Tid) (log : List Logged) (x : Logged) → changes_of t (log ++ x ∷ []) ≡ changes_of t log ++ flat_map (changes_in t) x.notes
changes_more t log x = flat_map-append (λ (y : Logged). flat_map (changes_in t) y.notes) log (x ∷ []) ∙ ap (λ (l : List Oid). changes_of t log ++ l) (append-nil _)

pub one_more : (sight : Sight) (x : Logged) (old new : Past) (m : ℕ) → ((n : ℕ) → is_of n x.event ≡ (m == n))
    → NotesMore old.changed.keys new.changed.keys (λ s t. list_any (is_shown_at sight s) (flat_map (changes_in t) x.notes))
    → ((n : ℕ) → AreSame (touched_at new n) (fold (seen_behind sight) (touched_at old n) (if m == n then x.notes else [])))
    → (log : List Logged) → IsPast sight log old → IsPast sight (log ++ x ∷ []) new
one_more sight x old new m of changes touches log past = record {
  touched = λ n o.
      touches n o
      ∙ fold_same sight (touched_at old n) (seen_by sight n log) (if m == n then x.notes else []) (past.touched n) o
      ∙ ap (λ b. is_among o (fold (seen_behind sight) (seen_by sight n log) (if b then x.notes else []))) (sym (of n))
      ∙ ap (is_among o) (sym (ap (fold (seen_behind sight) []) (notes_more n log x) ∙ fold-append (seen_behind sight) [] (notes_at n log) (if is_of n x.event then x.notes else [])));
  changed = λ s t.
      changes s t
      ∙ ap (λ b. b || list_any (is_shown_at sight s) (flat_map (changes_in t) x.notes)) (past.changed s t)
      ∙ sym (ap (list_any (is_shown_at sight s)) (changes_more t log x) ∙ list_any-append (is_shown_at sight s) (changes_of t log) (flat_map (changes_in t) x.notes));
}

-- ---- what an event releases

module _ (sight : Sight) (log : List Logged) (past : Past) (is : IsPast sight log past) where
  abbrev gone : ℕ → List Oid
  gone n = seen_by sight n log

  notes_are : (n : ℕ) (x : Note) → kept_note sight past n x ≡ of_note sight n (gone n) log x
  notes_are n (note.Begun t request) = refl
  notes_are n (note.Need t site o cached touches downs) =
      ap (λ (l : List Release). downs_to sight n downs ++ l ++ (if sight.has o.store then Ask n ∷ [] else [])) (gots_alike sight n (touched_at past n) (gone n) touches (is.touched n))
  notes_are n (note.Ended t value touches downs writes creates) =
      ap (λ (l : List Release). downs_to sight n downs ++ l ++ r.Ended n ∷ []) (gots_alike sight n (touched_at past n) (gone n) touches (is.touched n))
  notes_are n (note.Failed t touches downs) =
      ap (λ (l : List Release). downs_to sight n downs ++ l ++ r.Failed n ∷ []) (gots_alike sight n (touched_at past n) (gone n) touches (is.touched n))
  notes_are n (note.Stopped t stop touches downs) =
      ap (λ (l : List Release). downs_to sight n downs ++ l ++ r.Stopped n ∷ []) (gots_alike sight n (touched_at past n) (gone n) touches (is.touched n))
  notes_are n (note.Decided t request commit answers) = refl
  notes_are n (note.Applied t) = ap (λ b. if not (sight.has t.worker) && b then Applied n t ∷ [] else []) (is.changed n t)
  notes_are n (note.Voted t to answer) = refl
  notes_are n (note.Closed request outcome) = refl

  inner_is : (inner : Inner) (bytes : List ℕ) (xs : List Note) → kept_inner sight past inner bytes xs ≡ of_inner sight log inner bytes xs
  inner_is inner bytes xs = ap (λ (f : Note → List Release). received sight inner bytes ++ flat_map f xs ++ recovered sight inner) (λ j x. notes_are (node_of inner) x j)

  done_is : (inner : Inner) (x : Logged) → kept_done sight past inner x ≡ done sight log inner x
  done_is inner x = ap (λ (l : List Release). unless_in sight (node_of inner) (said sight false l)) (inner_is inner x.bytes x.notes)

  cut_is : (inner : Inner) (x : Logged) → kept_cut sight past inner x ≡ cut sight log inner x
  cut_is inner x =
      ap (λ (l : List Release). unless_in sight (node_of inner) ((if x.whole then said sight true l else []) ++ said sight false (Crash (node_of inner) ∷ []))) (inner_is inner x.bytes x.notes)

  pub event_is : (event : Event) (x : Logged) → kept_event sight past event x ≡ of_event sight log event x
  event_is (e.Begin n) x = done_is (i.Begin n) x
  event_is (e.Resume n) x = done_is (i.Resume n) x
  event_is (e.Deliver a b) x = done_is (i.Deliver a b) x
  event_is (e.Idle n s) x = done_is (i.Idle n s) x
  event_is (e.Recover n) x = done_is (i.Recover n) x
  event_is (e.CrashIn keep inner) x = cut_is inner x
  event_is (e.Crash n) x = refl
  event_is (e.Post h) x = refl

-- one event more of a log, of which the rest is still to come
pub released_step : (sight : Sight) (log : List Logged) (i : ℕ) (x : Logged) (past : Past) (n m whole : List Released) → IsPast sight (take i log) past
    → i < length log → x ≡ get_or log i x → m ≡ n ++ kept_event sight past x.event x → take (i + 1) log ≡ take i log ++ x ∷ []
    → n ++ released_behind sight (take i log) (drop i log) ≡ whole → m ++ released_behind sight (take (i + 1) log) (drop (i + 1) log) ≡ whole
released_step sight log i x past n m whole is within item next more so_far =
    ap (λ (l : List Released). l ++ released_behind sight (take (i + 1) log) (drop (i + 1) log)) (next ∙ ap (λ (l : List Released). n ++ l) (event_is sight (take i log) past is x.event x))
    ∙ ap (λ (l : List Logged). (n ++ of_event sight (take i log) x.event x) ++ released_behind sight l (drop (i + 1) log)) more
    ∙ append_assoc n (of_event sight (take i log) x.event x) (released_behind sight (take i log ++ x ∷ []) (drop (i + 1) log))
    ∙ ap (λ (l : List Logged). n ++ released_behind sight (take i log) l) (sym (front log i x within item))
    ∙ so_far
