-- The release record: what a run releases to a set of nodes, one list in the order of the run, read off the log alone.
use Rattle.std.specs.Prelude.{ℕ, Bool, true, false, not, ◌&&◌, ◌==◌, if◌then◌else◌, List, [], ◌∷◌, ◌++◌, map, flat_map, fold}
use Rattle.std.specs.List.{filter, list_any}
use Rattle.fab_base.specs.declared.object.Oid.{Oid}
use Rattle.fab_base.specs.declared.object.Tid.{Tid}
use Rattle.fab_base.specs.declared.object.Value.{Value}
use Rattle.fab_base.specs.FlatMap.{is_among}
use Rattle.fab_net.specs.declared.event.Event.{Event}
use Rattle.fab_net.specs.declared.event.Event.TheVariants as e
use Rattle.fab_net.specs.declared.event.Inner.{Inner}
use Rattle.fab_net.specs.declared.event.Inner.TheVariants as i
use Rattle.fab_net.specs.declared.note.Logged.{Logged}
use Rattle.fab_net.specs.declared.note.Note.{Note}
use Rattle.fab_net.specs.declared.note.Note.TheVariants as note
use Rattle.fab_protocol.specs.Versions.{is_tid}
use Rattle.fab_world.specs.Machine.{node_of}
use Rattle.fab_release.specs.declared.release.Release.{Release}
use Rattle.fab_release.specs.declared.release.Release.TheVariants.{Received, Begin, Down, Got, Ask, Ended, Failed, Stopped, Decided, Applied, Voted, Crash, Recover}
use Rattle.fab_release.specs.declared.release.Released.{Released}
use Rattle.fab_release.specs.Sights.{Sight}

-- ---- what a log says

-- the notes of the events of one node
abbrev pub is_of : ℕ → Event → Bool
is_of n (e.Begin m) = m == n
is_of n (e.Resume m) = m == n
is_of n (e.Deliver a b) = b == n
is_of n (e.Idle m s) = m == n
is_of n (e.Recover m) = m == n
is_of n (e.CrashIn keep inner) = node_of inner == n
is_of n (e.Post h) = false
is_of n (e.Crash m) = false

abbrev pub notes_at : ℕ → List Logged → List Note
notes_at n log = flat_map (λ x. if is_of n x.event then x.notes else []) log

-- what an attempt changes, as its evaluation told it when it ended
abbrev pub changes_in : Tid → Note → List Oid
changes_in t (note.Ended u value touches downs writes creates) =
    if is_tid u t then map (λ w. w.0) writes ++ map (λ c. c.0) creates else []
changes_in t _ = []

abbrev pub changes_of : Tid → List Logged → List Oid
changes_of t log = flat_map (λ x. flat_map (changes_in t) x.notes) log

-- ---- touches and downgrades that are in view

module _ (sight : Sight) where
  abbrev pub is_in_view : ℕ × Oid × ℕ → Bool
  is_in_view t = sight.in_view t.0 && sight.shows t.1.class

  -- the objects that a worker's attempt has touched in view, behind one more note
  abbrev pub seen_behind : List Oid → Note → List Oid
  seen_behind os (note.Begun t request) = []
  seen_behind os (note.Need t site o cached touches downs) = os ++ map (λ x. x.1) (filter is_in_view touches)
  seen_behind os (note.Ended t value touches downs writes creates) = os ++ map (λ x. x.1) (filter is_in_view touches)
  seen_behind os (note.Failed t touches downs) = os ++ map (λ x. x.1) (filter is_in_view touches)
  seen_behind os (note.Stopped t stop touches downs) = os ++ map (λ x. x.1) (filter is_in_view touches)
  seen_behind os _ = os

  -- the objects that the attempt of worker w has touched in view so far
  abbrev pub seen_by : ℕ → List Logged → List Oid
  seen_by w log = fold seen_behind [] (notes_at w log)

  -- each value that was downgraded into view
  abbrev pub downs_to : ℕ → List (ℕ × Value) → List Release
  downs_to w downs = map (λ d. Down w d.1) (filter (λ d. sight.into_view d.0) downs)

  -- the version of each object at a store outside the set that is touched in view and hasn't been before
  abbrev pub gots_to : ℕ → List Oid → List (ℕ × Oid × ℕ) → List Release
  gots_to w os [] = []
  gots_to w os (t ∷ ts) =
      (if is_in_view t && (not (sight.has t.1.store) && not (is_among t.1 os)) then Got w t.2 ∷ [] else [])
      ++ gots_to w (if is_in_view t then t.1 ∷ os else os) ts

  abbrev pub evaluated : ℕ → List Oid → List (ℕ × Oid × ℕ) → List (ℕ × Value) → Release → List Release
  evaluated w os touches downs outcome = downs_to w downs ++ gots_to w os touches ++ outcome ∷ []

  -- ---- what one note releases: of node n, whose attempt has touched these objects in view, behind this log

  -- an attempt of a worker outside the set changes an object of a seen class at this store
  abbrev pub shows_change : ℕ → Tid → List Logged → Bool
  shows_change s t log =
      not (sight.has t.worker) && list_any (λ o. (o.store == s) && sight.shows o.class) (changes_of t log)

  abbrev pub of_note : ℕ → List Oid → List Logged → Note → List Release
  of_note n os log (note.Begun t request) = Begin n request ∷ []
  of_note n os log (note.Need t site o cached touches downs) =
      downs_to n downs ++ gots_to n os touches ++ (if sight.has o.store then Ask n ∷ [] else [])
  of_note n os log (note.Ended t value touches downs writes creates) = evaluated n os touches downs (Ended n)
  of_note n os log (note.Failed t touches downs) = evaluated n os touches downs (Failed n)
  of_note n os log (note.Stopped t stop touches downs) = evaluated n os touches downs (Stopped n)
  of_note n os log (note.Decided t request commit answers) = Decided n commit ∷ []
  of_note n os log (note.Applied t) = if shows_change n t log then Applied n t ∷ [] else []
  of_note n os log (note.Voted t to answer) = if sight.has to then Voted n t answer ∷ [] else []
  of_note n os log (note.Closed request outcome) = []

  -- ---- what one event releases, behind this log

  abbrev pub received : Inner → List ℕ → List Release
  received (i.Deliver a b) bytes = if sight.has a then Received b a bytes ∷ [] else []
  received _ bytes = []

  abbrev pub recovered : Inner → List Release
  recovered (i.Recover n) = Recover n ∷ []
  recovered _ = []

  abbrev pub of_inner : List Logged → Inner → List ℕ → List Note → List Release
  of_inner log inner bytes notes =
      received inner bytes ++ flat_map (of_note (node_of inner) (seen_by (node_of inner) log) log) notes ++ recovered inner

  abbrev pub said : Bool → List Release → List Released
  said quiet entries = map (λ x. record { quiet = quiet; release = x }) entries

  -- an event of a node of the set releases nothing
  abbrev pub unless_in : ℕ → List Released → List Released
  unless_in n entries = if sight.has n then [] else entries

  abbrev pub done : List Logged → Inner → Logged → List Released
  done log inner x = unless_in (node_of inner) (said false (of_inner log inner x.bytes x.notes))

  -- what a cut event would have sent isn't sent, and one whose record isn't whole is a crash and no more
  abbrev pub cut : List Logged → Inner → Logged → List Released
  cut log inner x =
      unless_in (node_of inner)
      ((if x.whole then said true (of_inner log inner x.bytes x.notes) else []) ++ said false (Crash (node_of inner) ∷ []))

  abbrev pub of_event : List Logged → Event → Logged → List Released
  of_event log (e.Begin n) x = done log (i.Begin n) x
  of_event log (e.Resume n) x = done log (i.Resume n) x
  of_event log (e.Deliver a b) x = done log (i.Deliver a b) x
  of_event log (e.Idle n s) x = done log (i.Idle n s) x
  of_event log (e.Recover n) x = done log (i.Recover n) x
  of_event log (e.CrashIn keep inner) x = cut log inner x
  of_event log (e.Crash n) x = unless_in n (said false (Crash n ∷ []))
  of_event log (e.Post h) x = []

  -- ---- the record: of these events, behind this log

  abbrev pub released_behind : List Logged → List Logged → List Released
  released_behind log [] = []
  released_behind log (x ∷ xs) = of_event log x.event x ++ released_behind (log ++ x ∷ []) xs

  abbrev pub released : List Logged → List Released
  released log = released_behind [] log
