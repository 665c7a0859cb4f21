-- An accepted bundle and a set of nodes give what isolation asks.
use Rattle.std.proofs.Common.{◌≡◌, ℕ, ◌||◌, Bool, true, false, cond, IsTrue, List, [], ◌∷◌, ◌++◌, Option, Some, None, refl, sym, ap, ◌∙◌, subst}
use Rattle.std.specs.Prelude.{option_map, slice_get}
use Rattle.std.specs.List.{filter, AllByRecursion}
use Rattle.std.proofs.lemmas.Bool.{false≢true, and_from, or_right}
use Rattle.fab_base.specs.declared.object.Oid.{Oid}
use Rattle.fab_base.specs.declared.object.Tid.{Tid}
use Rattle.fab_base.specs.declared.object.Value.{Value}
use Rattle.fab_base.specs.FieldSpelling.{IsTid}
use Rattle.fab_base.specs.FlatMap.{FlatMap, is_among, is_same, ascends}
use Rattle.fab_base.proofs.Names.{same_self}
use Rattle.fab_base.proofs.Lists.{all_along}
use Rattle.fab_tree.specs.declared.start.Start.{Start}
use Rattle.fab_tree.specs.declared.resolved.Request.{Request}
use Rattle.fab_tree.specs.declared.resolved.Resolved.{Resolved}
use Rattle.fab_language.specs.declared.ending.Ending.TheVariants.{Ended, Failed, Missing}
use Rattle.fab_language.specs.Heaps.{touched}
use Rattle.fab_language.specs.Meaning.{Meant}
use Rattle.fab_language.specs.Numbers.{resolved}
use Rattle.fab_rights.specs.declared.rights.Rights.{Rights}
use Rattle.fab_rights.specs.Computed.{has_bit, may_hold}
use Rattle.fab_laws.specs.Shapes.{AreShaped, IsFitting}
use Rattle.fab_laws.specs.Locality.{IsPart, GoesOn}
use Rattle.fab_laws.proofs.Changes.{leaves}
use Rattle.fab_laws.proofs.Locality.{goes_on}
use Rattle.fab_world.specs.Machine.{Setting}
use Rattle.fab_world.specs.Serial.{AreFit, IsFit}
use Rattle.fab_settings.specs.Settings.{meant_of, request_at, setting_of}
use Rattle.fab_settings.proofs.Fitting.{sound_of}
use Rattle.fab_settings.proofs.Meanings.{evaluates, found_row}
use Rattle.fab_settings.proofs.Given.{asked_sound, few, fits}
use Rattle.fab_erasure.specs.Erased.{blank_result, erased}
use Rattle.fab_erasure.specs.Agreement.{IsSettled, IsView, begins_in_view, given_by, in_view, result_seen, rows_shown}
use Rattle.fab_fewer.specs.Asking.{LearnsAsking, is_asked_in_view}
use Rattle.fab_fewer.specs.Blanks.{blanked}
use Rattle.fab_fewer.specs.Fewer.{AreKnown}
use Rattle.fab_fewer.specs.InPart.{AgreesInPart, IsReplayable}
use Rattle.fab_fewer.proofs.AsksInView.{asks_are_in_view}
use Rattle.fab_fewer.proofs.Blanks.{blanks_change_nothing, blanked_is_alike}
use Rattle.fab_fewer.proofs.InPart.{views_replay}
use Rattle.fab_views.proofs.Bundles.{view_of}
use Rattle.fab_views.proofs.Declared.{labels_declared}
use Rattle.fab_views.proofs.Labels.{HasLabels}
use Rattle.fab_release.specs.Sights.{Sight, Public}
use Rattle.fab_release.specs.Bundles.{erased_of, public_of, public_part, sight_of}
use Rattle.fab_release.specs.Isolation.{IsSightOf}
use Rattle.fab_isolation.specs.Owed.{BundlesAreFollowed, Follows, IsFollowed, IsPublicOf, IsSetOf, is_seen, seen_in, shown_names}
use Rattle.fab_isolation.proofs.Asking.{learns_asking}
use Rattle.fab_isolation.proofs.Requests.{public_request, same_erased}
use Rattle.fab_isolation.proofs.Roots.{roots_shown}
use Rattle.fab_isolation.proofs.Sights.{held_is_asked, held_is_shown, fetched_is_shown}

or_left : (b c : Bool) → b ≡ true → (b || c) ≡ true
or_left true c e = refl
or_left false c e = absurd (false≢true e)

not_empty : {A : Type 0} (before : List A) (x : A) (after : List A) → [] ≡ before ++ x ∷ after → ⊥
not_empty [] x after e = cc
not_empty (y ∷ before) x after e = cc

-- what holds of each name among these that passes holds of those that pass
chosen_names : (p : Oid → Bool) (Q : Oid → Type 0) (os all : List Oid) → ((o : Oid) → is_among o os ≡ true → is_among o all ≡ true)
    → ((o : Oid) → IsTrue (p o) → IsTrue (is_among o all) → Q o) → AllByRecursion Q (filter p os)
chosen_names p Q [] all within f = tt
chosen_names p Q (o ∷ os) all within f = by (p o) refl (chosen_names p Q os all (λ x i. within x (or_right (is_same o x) (is_among x os) i)) f)
  where
    by : (b : Bool) → p o ≡ b → AllByRecursion Q (filter p os) → AllByRecursion Q (cond b (o ∷ filter p os) (filter p os))
    by true e later = (f o e (within o (or_left (is_same o o) (is_among o os) (same_self o))), later)
    by false e later = later

module _ (s : Start) (rights : Rights) (nodes : ℕ) (sees shows : ℕ → Bool) (h : IsSetOf s rights nodes sees shows) where
  abbrev r : Resolved
  r = resolved s

  abbrev S : Setting
  S = setting_of (resolved s) rights

  abbrev sight : Sight
  sight = sight_of sees shows (has_bit nodes) (resolved s)

  abbrev P : Public
  P = public_of sees shows rights (public_part sees shows (resolved s))

  declared : HasLabels (resolved s)
  declared = labels_declared s h.accepted.named

  view : IsView sees shows (resolved s)
  view = view_of s nodes sees shows h.accepted.named h.accepted.labelled h.seen

  replays : IsReplayable sees shows (resolved s)
  replays = views_replay sees shows (resolved s) view

  is_sight : IsSightOf S sight
  is_sight = record {
    hostile = h.hostile;
    holds = held_is_shown r nodes sees shows h.seen declared rights h.accepted.rights_are;
    fetches = fetched_is_shown r nodes sees shows h.seen declared rights h.accepted.rights_are;
  }

  is_public : IsPublicOf S sight P
  is_public = record { rights = refl; cache = refl; roots = roots_shown shows sees r; read = λ bytes. refl }

  shaped : (N : FlatMap) → AreFit S N → AreShaped r.classes N
  shaped N fit o x e = (sound_of S r 0 (fits s rights h.accepted 0) (few s rights h.accepted) o x (found_row (IsFit S) N fit o x e)).shape

  -- ---- a request that isn't there leaves all as it was, and one that is does what the laws say

  -- what is computed of a request, over the bundle itself
  abbrev computed : Option Request → Tid → FlatMap → List Value → Meant
  computed None t K given = record { ending = Failed; map = K; written = []; made = []; touches = []; downs = [] }
  computed (Some q) t K given = erased sees shows (resolved s) K q t 1000000 given

  blank_or_not : (q : Request) (t : Tid) (K : FlatMap) (given : List Value)
      → erased sees shows (resolved s) K (blanked sees shows (resolved s) q) t 1000000 given ≡ erased sees shows (resolved s) K q t 1000000 given
  blank_or_not q t K given =
      sym (blanks_change_nothing sees shows r K q (blanked sees shows r q).args t 1000000 given (blanked_is_alike sees shows r q))

  computed_by : (o : Option Request) (t : Tid) (K : FlatMap) (given : List Value)
      → erased_of sees shows (public_part sees shows (resolved s)) (option_map (blanked sees shows (resolved s)) o) t K given ≡ computed o t K given
  computed_by None t K given = refl
  computed_by (Some q) t K given = same_erased sees shows r K (blanked sees shows r q) t 1000000 given ∙ blank_or_not q t K given

  computed_is : (w number : ℕ) (t : Tid) (K : FlatMap) (given : List Value) → P.means w number t K given ≡ computed (request_at r w number) t K given
  computed_is w number t K given =
      ap (λ o. erased_of sees shows (public_part sees shows r) o t K given) (public_request sees shows r w number) ∙ computed_by (request_at r w number) t K given

  fitting : (w number : ℕ) (q : Request) → request_at r w number ≡ Some q → IsFitting r q
  fitting w number q e = (asked_sound s rights h.accepted w number q e).fitting

  abbrev full_of : Option Request → Tid → FlatMap → Meant
  full_of o t N = meant_of (resolved s) o t N

  nothing_follows : (t : Tid) (N K : FlatMap) → Follows sight (full_of None t N) K (computed None t K [])
  nothing_follows t N K = record {
    goes = λ before site o after e known lacks. absurd (not_empty before (site, o) after e);
    misses = λ known site o e. absurd (cc);
    ends = λ known v e. absurd (cc);
    same = λ known v e. absurd (cc);
  }

  -- what was made of a request has a store that may hold it
  made_held : (w number : ℕ) (q : Request) → request_at r w number ≡ Some q → (t : Tid) (N : FlatMap) → IsTid t → IsTrue (ascends N) → AreFit S N
      → (o : Oid) → is_among o (full_of (Some q) t N).made ≡ true → IsTrue (may_hold rights o.store o.class)
  made_held w number q e t N is up fit o i =
      let full = full_of (Some q) t N in
      let there = (leaves N r t q 1000000).changes.there o (or_left (is_among o full.made) (is_among o full.written) i) in
      (found_row (IsFit S) full.map (subst (λ z. AreFit S (full_of z t N).map) e ((evaluates s rights h.accepted).fits w number t N is up fit)) o there.0 there.1).name.placed

  abbrev AtSeenStores : Oid → Type 0
  AtSeenStores o = IsTrue (has_bit nodes o.store) → IsTrue (shows o.class)

  one_follows : (w number : ℕ) (q : Request) → request_at r w number ≡ Some q → (t : Tid) (N K : FlatMap) → IsTid t → IsTrue (ascends N) → AreFit S N → IsTrue (ascends K)
      → AgreesInPart sees shows r q (full_of (Some q) t N) K (computed (Some q) t K (given_by sees shows r (full_of (Some q) t N)))
      → Follows sight (full_of (Some q) t N) K (computed (Some q) t K (given_by sees shows r (full_of (Some q) t N)))
  one_follows w number q found t N K is up fit sorted agrees = record {
    goes = λ before site o after e known lacks. (agrees.goes before site o after e known lacks).0;
    misses = agrees.misses;
    ends = ending (begins_in_view sees shows r q) refl;
    same = λ known v e.
        let same = agrees.same known (settled v e) in
        record {
          touches = same.touches;
          written = same.written;
          made = same.made;
          elsewhere = subst (AllByRecursion AtSeenStores) (sym same.names)
              (chosen_names (λ o. in_view sees shows r o.site) AtSeenStores full.made full.made (λ o i. i)
              (λ o v i has. held_is_shown r nodes sees shows h.seen declared rights h.accepted.rights_are o.store o.class has (made_held w number q found t N is up fit o i)));
          objects = same.objects;
          ascending = agrees.ascending known (settled v e) sorted;
        };
  }
    where
      full : Meant
      full = full_of (Some q) t N

      settled : (v : Option Value) → full.ending ≡ Ended v → IsSettled sees shows r full.ending
      settled v e = subst (IsSettled sees shows r) (sym e) tt

      ending : (b : Bool) → begins_in_view sees shows r q ≡ b → AreKnown K (seen_in sight full) → (v : Option Value) → full.ending ≡ Ended v
          → (u : Option Value) × ((computed (Some q) t K (given_by sees shows r full)).ending ≡ Ended u)
      ending true b known v e = (result_seen sees shows r (slice_get r.methods q.method) v, agrees.ends known b v e)
      ending false b known v e = (blank_result sees shows (slice_get r.methods q.method), agrees.skips b)

  follows_by : (w number : ℕ) (o : Option Request) → request_at r w number ≡ o → (t : Tid) (N K : FlatMap) → IsTid t → IsTrue (ascends N) → AreFit S N → IsTrue (ascends K)
      → IsPart K (rows_shown sees shows r N) → Follows sight (full_of o t N) K (computed o t K (given_by sees shows r (full_of o t N)))
  follows_by w number None e t N K is up fit sorted part = nothing_follows t N K
  follows_by w number (Some q) e t N K is up fit sorted part =
      one_follows w number q e t N K is up fit sorted (replays.in_part N K q t 1000000 up (shaped N fit) (fitting w number q e) part)

  grows_by : (o : Option Request) (t : Tid) (N M : FlatMap) → IsPart N M → GoesOn (full_of o t N) (full_of o t M)
  grows_by None t N M part = record { touches = ([], refl); downs = ([], refl) }
  grows_by (Some q) t N M part = goes_on N M r q t 1000000 part

  wrote_by : (w number : ℕ) (o : Option Request) → request_at r w number ≡ o → (t : Tid) (N : FlatMap) (v : Option Value) → IsTrue (ascends N) → AreFit S N
      → (full_of o t N).ending ≡ Ended v
      → AllByRecursion (λ x. IsTrue (is_among x (touched (seen_in sight (full_of o t N))))) (shown_names sight (full_of o t N).written)
  wrote_by w number None e t N v up fit ends = tt
  wrote_by w number (Some q) e t N v up fit ends =
      let full = full_of (Some q) t N in
      chosen_names (λ x. sight.shows x.class) (λ x. IsTrue (is_among x (touched (seen_in sight full)))) full.written full.written
      (λ x i. i) (replays.wrote N q t 1000000 up (shaped N fit) (fitting w number q e) (subst (IsSettled sees shows r) (sym ends) tt))

  -- an object of a store of the set that may hold it is asked for in view
  asked : (x : ℕ × Oid) → (IsTrue (is_asked_in_view sees shows r x.1.class) → IsTrue (in_view sees shows r x.0)) → IsTrue (has_bit nodes x.1.store)
      → IsTrue (may_hold rights x.1.store x.1.class) → IsTrue (is_seen sight x)
  asked x f has may =
      and_from (in_view sees shows r x.0) (shows x.1.class)
      (f (held_is_asked r nodes sees shows h.seen declared rights h.accepted.rights_are x.1.store x.1.class has may))
      (held_is_shown r nodes sees shows h.seen declared rights h.accepted.rights_are x.1.store x.1.class has may)

  learns : LearnsAsking sees shows (resolved s)
  learns = learns_asking r nodes sees shows h.seen declared h.accepted.labelled view

  asks_by : (w number : ℕ) (o : Option Request) → request_at r w number ≡ o → (t : Tid) (N : FlatMap) → IsTrue (ascends N) → AreFit S N
      → AllByRecursion (λ x. IsTrue (has_bit nodes x.1.store) → IsTrue (may_hold rights x.1.store x.1.class) → IsTrue (is_seen sight x)) (full_of o t N).touches
  asks_by w number None e t N up fit = tt
  asks_by w number (Some q) e t N up fit =
      all_along _ _ asked (full_of (Some q) t N).touches (asks_are_in_view sees shows r N q t 1000000 learns (shaped N fit) (fitting w number q e)).touches

  lacks_by : (w number : ℕ) (o : Option Request) → request_at r w number ≡ o → (t : Tid) (N : FlatMap) (site : ℕ) (x : Oid) → IsTrue (ascends N) → AreFit S N
      → (full_of o t N).ending ≡ Missing site x → IsTrue (has_bit nodes x.store) → IsTrue (may_hold rights x.store x.class) → IsTrue (is_seen sight (site, x))
  lacks_by w number None e t N site x up fit ends has may = absurd (cc)
  lacks_by w number (Some q) e t N site x up fit ends has may =
      asked (site, x) ((asks_are_in_view sees shows r N q t 1000000 learns (shaped N fit) (fitting w number q e)).missing site x ends) has may

  is_followed : IsFollowed S sight P
  is_followed = record {
    grows = λ w number t N M part. grows_by (request_at r w number) t N M part;
    wrote = λ w number t N v up fit ends. wrote_by w number (request_at r w number) refl t N v up fit ends;
    asks = λ w number t N up fit. asks_by w number (request_at r w number) refl t N up fit;
    lacks = λ w number t N site x up fit ends has may. lacks_by w number (request_at r w number) refl t N site x up fit ends has may;
    follows = λ w number t N K is up fit sorted part.
        subst (Follows sight (full_of (request_at r w number) t N) K)
        (sym (computed_is w number t K (given_by sees shows r (full_of (request_at r w number) t N))))
        (follows_by w number (request_at r w number) refl t N K is up fit sorted part);
  }

pub followed : BundlesAreFollowed
followed s rights nodes sees shows h = (is_sight s rights nodes sees shows h, is_public s rights nodes sees shows h, is_followed s rights nodes sees shows h)
