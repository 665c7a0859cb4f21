-- The erased meaning over a part of the shown objects, beside the meaning over all: what somebody knows of a run who learns
-- the objects that it touches in view one after the other.
use Rattle.std.specs.Prelude.{◌≡◌, ℕ, Bool, false, ◌||◌, IsTrue, List, ◌∷◌, ◌++◌, Option, None, slice_get}
use Rattle.std.specs.List.{filter}
use Rattle.fab_base.specs.declared.object.Oid.{Oid}
use Rattle.fab_base.specs.declared.object.Tid.{Tid}
use Rattle.fab_base.specs.declared.object.Value.{Value}
use Rattle.fab_base.specs.FlatMap.{FlatMap, get, ascends}
use Rattle.fab_tree.specs.declared.resolved.Resolved.{Resolved}
use Rattle.fab_tree.specs.declared.resolved.Request.{Request}
use Rattle.fab_language.specs.declared.ending.Ending.TheVariants.{Ended, Failed, Missing}
use Rattle.fab_language.specs.Heaps.{is_among, touched}
use Rattle.fab_language.specs.Meaning.{Meant, meaning}
use Rattle.fab_laws.specs.Locality.{IsPart}
use Rattle.fab_laws.specs.Shapes.{IsFitting, AreShaped}
use Rattle.fab_erasure.specs.Erased.{erased, blank_result}
use Rattle.fab_erasure.specs.Agreement.{in_view, touch_in_view, touches_in_view, downs_in_view, given_by, rows_shown, begins_in_view, result_seen, IsView, IsSettled, IsFront}
use Rattle.fab_fewer.specs.Fewer.{AreKnown, KnowsTouched}

module _ (sees shows : ℕ → Bool) (r : Resolved) where
  -- it touched, wrote and made what is in view of the full run, and under these names it has the same objects
  pub record IsSameInView (full part : Meant) : Type 0 where
    pub touches : part.touches ≡ touches_in_view sees shows r full
    pub downs : downs_in_view sees shows r part ≡ downs_in_view sees shows r full
    pub written : part.written ≡ filter (λ o. shows o.class) full.written
    pub made : filter (λ o. shows o.class) part.made ≡ filter (λ o. shows o.class) full.made
    pub names : part.made ≡ filter (λ o. in_view sees shows r o.site) full.made
    pub objects : (o : Oid) → IsTrue (shows o.class) → IsTrue (is_among o full.made || is_among o full.written) → get part.map o ≡ get full.map o

  -- Of one request, the full run and the erased one over a part of the shown objects, with the values that the full run downgraded into view.
  -- Where the full run was stopped, or lacks an object out of view, nothing is said of how the other ends but `goes`.
  pub record AgreesInPart (request : Request) (full : Meant) (few : FlatMap) (part : Meant) : Type 0 where
    -- it lacks the first object touched in view that isn't known
    pub goes : (before : List (ℕ × Oid)) (site : ℕ) (o : Oid) (after : List (ℕ × Oid)) → touches_in_view sees shows r full ≡ before ++ (site, o) ∷ after
        → AreKnown few before → get few o ≡ None → (part.ending ≡ Missing site o) × (part.touches ≡ before)
    -- where all of them are known: it lacks what the full run lacks in view, ends and fails where that does
    pub misses : AreKnown few (touches_in_view sees shows r full) → (site : ℕ) (o : Oid) → full.ending ≡ Missing site o
        → IsTrue (touch_in_view sees shows r (site, o)) → part.ending ≡ Missing site o
    pub ends : AreKnown few (touches_in_view sees shows r full) → IsTrue (begins_in_view sees shows r request) → (v : Option Value) → full.ending ≡ Ended v
        → part.ending ≡ Ended (result_seen sees shows r (slice_get r.methods request.method) v)
    pub fails : AreKnown few (touches_in_view sees shows r full) → IsTrue (begins_in_view sees shows r request) → full.ending ≡ Failed → part.ending ≡ Failed
    -- and then all that is in view is the same
    pub same : AreKnown few (touches_in_view sees shows r full) → IsSettled sees shows r full.ending → IsSameInView full part
    pub ascending : AreKnown few (touches_in_view sees shows r full) → IsSettled sees shows r full.ending → IsTrue (ascends few) → IsTrue (ascends part.map)
    -- a request whose begin label isn't seen comes to a blank
    pub skips : begins_in_view sees shows r request ≡ false → part.ending ≡ Ended (blank_result sees shows (slice_get r.methods request.method))

  -- over more objects what is in view begins with what was in view over fewer
  pub record GrowsInView (over_few over_many : Meant) : Type 0 where
    pub touches : IsFront (touches_in_view sees shows r over_few) (touches_in_view sees shows r over_many)
    pub downs : IsFront (downs_in_view sees shows r over_few) (downs_in_view sees shows r over_many)

  -- what it wrote of shown classes was touched in view
  abbrev pub WroteInView : Meant → Type 0
  WroteInView full = IsSettled sees shows r full.ending
      → (o : Oid) → IsTrue (shows o.class) → IsTrue (is_among o full.written) → IsTrue (is_among o (touched (touches_in_view sees shows r full)))

  -- all that a replay over what was learned asks of a program's meaning
  pub record IsReplayable : Type 0 where
    pub known : (answers : FlatMap) (request : Request) (tid : Tid) (fuel : ℕ) → KnowsTouched answers (meaning r answers request tid fuel)
    pub grows : (answers more : FlatMap) (request : Request) (tid : Tid) (fuel : ℕ) → IsPart answers more
        → GrowsInView (meaning r answers request tid fuel) (meaning r more request tid fuel)
    pub wrote : (answers : FlatMap) (request : Request) (tid : Tid) (fuel : ℕ) → IsTrue (ascends answers) → AreShaped r.classes answers → IsFitting r request
        → WroteInView (meaning r answers request tid fuel)
    pub in_part : (answers few : FlatMap) (request : Request) (tid : Tid) (fuel : ℕ) → IsTrue (ascends answers) → AreShaped r.classes answers
        → IsFitting r request
        → IsPart few (rows_shown sees shows r answers)
        → let full = meaning r answers request tid fuel in
        AgreesInPart request full few (erased sees shows r few request tid fuel (given_by sees shows r full))

-- of every program and whoever sees labels that are closed under what the program owes them
abbrev pub ViewsReplay : Type 0
ViewsReplay = (sees shows : ℕ → Bool) (r : Resolved) → IsView sees shows r → IsReplayable sees shows r
