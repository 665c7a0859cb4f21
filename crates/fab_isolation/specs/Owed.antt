-- What isolation asks of a setting, of what a set of nodes sees of it, and of what everybody may know: that whoever learns the objects of a
-- request in view, one after the other, can compute of it what is in view.
use Rattle.std.specs.Prelude.{◌≡◌, ◌||◌, ◌&&◌, ℕ, Bool, true, IsTrue, List, ◌∷◌, ◌++◌, map, Option, None}
use Rattle.std.specs.List.{filter, AllByRecursion}
use Rattle.fab_base.specs.declared.object.Oid.{Oid}
use Rattle.fab_base.specs.declared.object.Tid.{Tid}
use Rattle.fab_base.specs.declared.object.Value.{Value}
use Rattle.fab_base.specs.FieldSpelling.{IsTid}
use Rattle.fab_base.specs.FlatMap.{FlatMap, get, ascends, is_among}
use Rattle.fab_tree.specs.declared.start.Start.{Start}
use Rattle.fab_language.specs.declared.ending.Ending.TheVariants.{Ended, Missing}
use Rattle.fab_language.specs.Heaps.{touched}
use Rattle.fab_language.specs.Meaning.{Meant}
use Rattle.fab_language.specs.Numbers.{resolved}
use Rattle.fab_rights.specs.declared.rights.Rights.{Rights}
use Rattle.fab_rights.specs.Computed.{has_bit, may_hold}
use Rattle.fab_laws.specs.Locality.{IsPart, GoesOn}
use Rattle.fab_fewer.specs.Fewer.{AreKnown}
use Rattle.fab_views.specs.Views.{IsSeenBy}
use Rattle.fab_world.specs.Machine.{Setting}
use Rattle.fab_world.specs.Serial.{AreFit}
use Rattle.fab_settings.specs.Settings.{IsAcceptedWith, setting_of}
use Rattle.fab_release.specs.Sights.{Sight, Public}
use Rattle.fab_release.specs.Bundles.{sight_of, public_of, public_part}
use Rattle.fab_release.specs.Isolation.{IsSightOf}

module _ (sight : Sight) where
  -- a touch at a site in view, of an object of a seen class
  abbrev pub is_seen : ℕ × Oid → Bool
  is_seen t = sight.in_view t.0 && sight.shows t.1.class

  abbrev pub seen_in : Meant → List (ℕ × Oid)
  seen_in full = filter is_seen full.touches

  -- the values that it downgraded into view
  abbrev pub given_by : Meant → List Value
  given_by full = map (λ d. d.1) (filter (λ d. sight.into_view d.0) full.downs)

  abbrev pub shown_names : List Oid → List Oid
  shown_names os = filter (λ o. sight.shows o.class) os

  -- It touched, wrote and made what is in view of the full run, and has the same objects under these names; what it made besides
  -- is at no store of the set. So what stores of the set are sent of it is the same, in the same order.
  pub record IsSame (full part : Meant) : Type 0 where
    pub touches : part.touches ≡ seen_in full
    pub written : part.written ≡ shown_names full.written
    pub made : shown_names part.made ≡ shown_names full.made
    pub elsewhere : AllByRecursion (λ o. IsTrue (sight.has o.store) → IsTrue (sight.shows o.class)) part.made
    pub objects : (o : Oid) → IsTrue (sight.shows o.class) → IsTrue (is_among o full.made || is_among o full.written) → get part.map o ≡ get full.map o
    pub ascending : IsTrue (ascends part.map)

  -- Of one request, the full run and what is computed of it over some known objects with the values that it downgraded into view.
  pub record Follows (full : Meant) (known : FlatMap) (part : Meant) : Type 0 where
    -- it lacks the first object touched in view that isn't known
    pub goes : (before : List (ℕ × Oid)) (site : ℕ) (o : Oid) (after : List (ℕ × Oid)) → seen_in full ≡ before ++ (site, o) ∷ after
        → AreKnown known before → get known o ≡ None → part.ending ≡ Missing site o
    -- where all of them are known, it lacks what the full run lacks in view, and ends where that does
    pub misses : AreKnown known (seen_in full) → (site : ℕ) (o : Oid) → full.ending ≡ Missing site o → IsTrue (is_seen (site, o))
        → part.ending ≡ Missing site o
    pub ends : AreKnown known (seen_in full) → (v : Option Value) → full.ending ≡ Ended v → (u : Option Value) × (part.ending ≡ Ended u)
    pub same : AreKnown known (seen_in full) → (v : Option Value) → full.ending ≡ Ended v → IsSame full part

-- what everybody may know of a setting, as far as it is data
pub record IsPublicOf (S : Setting) (sight : Sight) (P : Public) : Type 0 where
  pub rights : P.rights ≡ S.rights
  pub cache : P.cache ≡ S.cache
  pub roots : P.roots ≡ filter (λ root. sight.shows root.0.class) S.roots
  pub read : (bytes : List ℕ) → P.read bytes ≡ S.read bytes

pub record IsFollowed (S : Setting) (sight : Sight) (P : Public) : Type 0 where
  -- over more objects a run notes what it noted over fewer, and then perhaps more: what is told anew of an attempt goes on from what was told
  pub grows : (w request : ℕ) (t : Tid) (N M : FlatMap) → IsPart N M → GoesOn (S.means w request t N) (S.means w request t M)
  -- what it writes of seen classes it touched in view
  pub wrote : (w request : ℕ) (t : Tid) (N : FlatMap) (v : Option Value) → IsTrue (ascends N) → AreFit S N → (S.means w request t N).ending ≡ Ended v
      → AllByRecursion (λ o. IsTrue (is_among o (touched (seen_in sight (S.means w request t N))))) (shown_names sight (S.means w request t N).written)
  -- an object of a store in the set, which may hold it, is touched and lacked in view alone
  pub asks : (w request : ℕ) (t : Tid) (N : FlatMap) → IsTrue (ascends N) → AreFit S N
      → AllByRecursion (λ x. IsTrue (sight.has x.1.store) → IsTrue (may_hold S.rights x.1.store x.1.class) → IsTrue (is_seen sight x))
      (S.means w request t N).touches
  pub lacks : (w request : ℕ) (t : Tid) (N : FlatMap) (site : ℕ) (o : Oid) → IsTrue (ascends N) → AreFit S N → (S.means w request t N).ending ≡ Missing site o
      → IsTrue (sight.has o.store) → IsTrue (may_hold S.rights o.store o.class) → IsTrue (is_seen sight (site, o))
  -- and over a part of the seen objects it is followed
  pub follows : (w request : ℕ) (t : Tid) (N K : FlatMap) → IsTid t → IsTrue (ascends N) → AreFit S N → IsTrue (ascends K)
      → IsPart K (filter (λ row. sight.shows row.0.class) N)
      → Follows sight (S.means w request t N) K (P.means w request t K (given_by sight (S.means w request t N)))

-- ---- bundles

-- the nodes of a mask that hold the hostile ones, and the labels and classes that they see
pub record IsSetOf (s : Start) (rights : Rights) (nodes : ℕ) (sees shows : ℕ → Bool) : Type 0 where
  pub accepted : IsAcceptedWith s rights
  pub hostile : (n : ℕ) → (setting_of (resolved s) rights).hostile n ≡ true → has_bit nodes n ≡ true
  pub seen : IsSeenBy (resolved s) nodes sees shows

-- every accepted bundle, and whatever set of nodes that contains the hostile ones, gives what isolation asks
abbrev pub BundlesAreFollowed : Type 0
BundlesAreFollowed =
    (s : Start) (rights : Rights) (nodes : ℕ) (sees shows : ℕ → Bool) → IsSetOf s rights nodes sees shows
    → let r = resolved s in
    let S = setting_of r rights in
    let sight = sight_of sees shows (has_bit nodes) r in
    let P = public_of sees shows rights (public_part sees shows r) in
    IsSightOf S sight × IsPublicOf S sight P × IsFollowed S sight P
