-- What the requests of an accepted bundle mean is an evaluation.
use Rattle.std.proofs.Common.{◌≡◌, ℕ, ◌+◌, ◌≤◌, ◌==◌, ◌||◌, Bool, true, false, if◌then◌else◌, IsTrue, IsFalse, List, [], ◌∷◌, length, Option, Some, None, refl, sym, ap, ◌∙◌, subst, arith}
use Rattle.std.specs.Prelude.{IsSome, is_some}
use Rattle.std.specs.List.{AllByRecursion}
use Rattle.std.proofs.lemmas.Bool.{true≢false, and_from}
use Rattle.std.proofs.lemmas.Bool.Decides.{nat_tests}
use Rattle.fab_base.specs.declared.object.Oid.{Oid}
use Rattle.fab_base.specs.declared.object.Object.{Object}
use Rattle.fab_base.specs.declared.object.Tid.{Tid}
use Rattle.fab_base.specs.declared.object.Value.{Value}
use Rattle.fab_base.specs.FieldSpelling.{IsTid, IsValue, sent_version}
use Rattle.fab_base.specs.FlatMap.{FlatMap, get, is_same, is_among}
use Rattle.fab_base.specs.FlatMap as flat
use Rattle.fab_base.proofs.Names.{same_self}
use Rattle.fab_base.proofs.NameOrder.{one_name}
use Rattle.fab_base.proofs.Lists.{all_two}
use Rattle.fab_tree.specs.declared.resolved.Request.{Request}
use Rattle.fab_tree.specs.declared.resolved.Resolved.{Resolved}
use Rattle.fab_tree.specs.declared.start.Start.{Start}
use Rattle.fab_language.specs.declared.ending.Ending.TheVariants.{Ended, Stopped, Missing}
use Rattle.fab_language.specs.Heaps.{touched}
use Rattle.fab_language.specs.Meaning.{Meant, meaning}
use Rattle.fab_language.specs.Numbers.{resolved}
use Rattle.fab_laws.specs.Changes.{IsOf}
use Rattle.fab_laws.specs.Kinds.{Claim, given, counted, made, claims_of}
use Rattle.fab_laws.specs.Locality.{AgreesOn, IsSameOver}
use Rattle.fab_laws.specs.Origins.{MakesPassing, OnlyPassing, name_at}
use Rattle.fab_laws.specs.Shapes.{AreShaped}
use Rattle.fab_laws.proofs.Changes.{leaves, made_of, missing_is_absent}
use Rattle.fab_laws.proofs.Locality.{over_more}
use Rattle.fab_laws.proofs.Names.{or_true}
use Rattle.fab_laws.proofs.Placed.{meant_passes}
use Rattle.fab_laws.proofs.Shapes.{shape_kept}
use Rattle.fab_held.specs.Held.{MakesHeld}
use Rattle.fab_held.proofs.Made.{all_made}
use Rattle.fab_rights.specs.declared.rights.Rights.{Rights}
use Rattle.fab_protocol.specs.Versions.{is_made_in}
use Rattle.fab_world.specs.Machine.{Setting}
use Rattle.fab_world.specs.Serial.{IsFitName, IsFit, AreFit, changes, SameOn, AreAlike, IsEvaluation}
use Rattle.fab_attempts.proofs.Rows.{all_rows}
use Rattle.fab_settings.specs.Settings.{IsAcceptedWith, setting_of, request_at, meant_of}
use Rattle.fab_settings.proofs.Ranges.{HasSmall, objects_small, result_small}
use Rattle.fab_settings.proofs.Sites.{MakesBelow, made_below}
use Rattle.fab_settings.proofs.Fitting.{fits_name, IsSound, held_passes, name_fits, value_spelled, sound_of, fit_of}
use Rattle.fab_settings.proofs.Nodes.{few_sites, number_holds}
use Rattle.fab_settings.proofs.Given.{few, fits, program_small, IsSoundRequest, asked_sound}

-- ---- names of a list, and objects of a map

each_name : (P : Oid → Type 0) (os : List Oid) → ((o : Oid) → is_among o os ≡ true → P o) → AllByRecursion P os
each_name P [] f = tt
each_name P (o ∷ os) f = (
  f o (ap (λ b. b || is_among o os) (same_self o)),
  each_name P os (λ q e. f q (ap (λ b. is_same o q || b) e ∙ or_true (is_same o q))),
)

at_name : (P : Oid → Type 0) (os : List Oid) → AllByRecursion P os → (o : Oid) → is_among o os ≡ true → P o
at_name P [] h o e = absurd (true≢false (sym e))
at_name P (q ∷ os) h o e = by (is_same q o) refl e (λ g. at_name P os h.1 o g)
  where
    by : (b : Bool) → is_same q o ≡ b → (b || is_among o os) ≡ true → (is_among o os ≡ true → P o) → P o
    by true i g later = subst P (one_name q o i) h.0
    by false i g later = later g

pub found_row : (P : Oid × Object → Type 0) (rows : FlatMap) → AllByRecursion P rows → (o : Oid) (x : Object) → get rows o ≡ Some x → P (o, x)
found_row P [] h o x e = cc
found_row P (row ∷ rows) h o x e = by (is_same row.0 o) refl e (λ g. found_row P rows h.1 o x g)
  where
    by : (b : Bool) → is_same row.0 o ≡ b → (if b then Some row.1 else get rows o) ≡ Some x → (get rows o ≡ Some x → P (o, x)) → P (o, x)
    by true i g later =
        let same : row.1 ≡ x = cc in
        subst (λ q. P (q, x)) (one_name row.0 o i) (subst (λ y. P (row.0, y)) same h.0)
    by false i g later = later g

either_way : (b c : Bool) → (b || c) ≡ (c || b)
either_way true true = refl
either_way true false = refl
either_way false true = refl
either_way false false = refl

-- ---- a request that isn't there leaves all as it was; one that is means what the laws say

module _ (program : Resolved) (t : Tid) where
  abbrev means : Option Request → FlatMap → Meant
  means q N = meant_of program q t N

  local_by : (q : Option Request) (N M : FlatMap) (v : Option Value) → (means q N).ending ≡ Ended v → SameOn (touched (means q N).touches) N M
      → AreAlike (means q N) (means q M)
  local_by None N M v e h = absurd (cc)
  local_by (Some x) N M v e h = record {
    ending = sym same.ending;
    touches = sym same.touches;
    downs = sym same.downs;
    written = sym same.written;
    made = sym same.made;
    changed = λ o i.
        let first = means (Some x) N in
        let either : (is_among o first.made || is_among o first.written) ≡ true = either_way (is_among o first.made) (is_among o first.written) ∙ i in
        sym (same.map o ∙ ap (λ b. if b then get (means (Some x) N).map o else get M o) either);
  }
    where
      agrees : AgreesOn N M (meaning program N x t 1000000)
      agrees = record {
        at_touched = λ o y i g. sym (at_name (λ p. get N p ≡ get M p) (touched (means (Some x) N).touches) h o i) ∙ g;
        at_missing = λ site o g. let no : Ended v ≡ Missing site o = sym e ∙ g in absurd (cc);
        at_full = λ g. let no : Ended v ≡ Stopped _ = sym e ∙ g in absurd (cc);
      }

      same : IsSameOver M (meaning program N x t 1000000) (meaning program M x t 1000000)
      same = over_more N M program x t 1000000 agrees

  frame_by : (q : Option Request) (N : FlatMap) (o : Oid) → IsFalse (changes (means q N) o) → get (means q N).map o ≡ get N o
  frame_by None N o h = refl
  frame_by (Some x) N o h =
      let m = means (Some x) N in
      (leaves N program t x 1000000).changes.others o (either_way (is_among o m.made) (is_among o m.written) ∙ h)

  once_by : (q : Option Request) (N : FlatMap) → IsTrue (flat.ascends N) → IsTrue (flat.ascends (means q N).map)
  once_by None N h = h
  once_by (Some x) N h = (leaves N program t x 1000000).changes.ascending h

  written_by : (q : Option Request) (N : FlatMap) → AllByRecursion (λ o. IsTrue (is_among o (touched (means q N).touches))) (means q N).written
  written_by None N = tt
  written_by (Some x) N =
      each_name (λ o. IsTrue (is_among o (touched (means (Some x) N).touches))) (means (Some x) N).written
      (leaves N program t x 1000000).writes.touched

  is_of : (o : Oid) → IsOf t o → IsTrue (is_made_in t o)
  is_of o h =
      let worker = h.worker in
      let boot = h.boot in
      let number = h.number in
      and_from (o.worker == t.worker) _ (grind (arith, nat_tests, worker))
      (and_from (o.boot == t.boot) (o.number == t.number) (grind (arith, nat_tests, boot)) (grind (arith, nat_tests, number)))

  made_by : (q : Option Request) (N : FlatMap) → AllByRecursion (λ o. IsTrue (is_made_in t o)) (means q N).made
  made_by None N = tt
  made_by (Some x) N =
      each_name (λ o. IsTrue (is_made_in t o)) (means (Some x) N).made
      (λ o e. is_of o (made_of t (means (Some x) N) (leaves N program t x 1000000).makes o e))

  absent_by : (q : Option Request) (N : FlatMap) (site : ℕ) (o : Oid) → (means q N).ending ≡ Missing site o → get N o ≡ None
  absent_by None N site o e = absurd (cc)
  absent_by (Some x) N site o e = missing_is_absent N program t x 1000000 site o e

  there_by : (q : Option Request) (N : FlatMap) → AllByRecursion (λ o. IsSome (get N o)) (touched (means q N).touches)
  there_by None N = tt
  there_by (Some x) N =
      each_name (λ o. IsSome (get N o)) (touched (means (Some x) N).touches)
      (λ o e. let w = (leaves N program t x 1000000).stays.was_there o e in ap is_some w.1)

  few_touched_by : (q : Option Request) (N : FlatMap) → length (touched (means q N).touches) ≤ 1024
  few_touched_by None N = omega arith
  few_touched_by (Some x) N = (leaves N program t x 1000000).stays.few_touched

  few_changed_by : (q : Option Request) (N : FlatMap) → length (means q N).written + length (means q N).made ≤ 256
  few_changed_by None N = omega arith
  few_changed_by (Some x) N = (leaves N program t x 1000000).stays.few_changed

-- ---- over fitting objects

module _ (s : Start) (rights : Rights) (a : IsAcceptedWith s rights) where
  abbrev bundle : Resolved
  bundle = resolved s

  abbrev S : Setting
  S = setting_of (resolved s) rights

  abbrev p : Oid → Bool
  p = fits_name rights

  known_sound : (N : FlatMap) → AreFit S N → (o : Oid) (x : Object) → get N o ≡ Some x → IsSound bundle rights o x
  known_sound N h o x e = sound_of S bundle 0 (fits s rights a 0) (few s rights a) o x (found_row (IsFit S) N h o x e)

  -- each name that an attempt makes passes
  making : (t : Tid) → IsTid t → (c : Claim) → MakesHeld bundle c → MakesBelow 65000 c → MakesPassing p t c
  making t is (given taker kind) h k = tt
  making t is (counted places values) h k = tt
  making t is (made store class site) h k = λ index below.
      let held = number_holds bundle rights a.rights_are store class h in
      let small = few s rights a store class held in
      let store_is = small.0 in
      let class_is = small.1 in
      held_passes rights (name_at t store class site index) held (record {
        store = omega (arith, store_is);
        class = omega (arith, class_is);
        worker = is.worker;
        boot = is.boot;
        number = is.number;
        site = omega (arith, k);
        index = omega (arith, below);
      })

  makes : (t : Tid) → IsTid t → AllByRecursion (MakesPassing p t) (claims_of bundle)
  makes t is =
      all_two (MakesHeld bundle) (MakesBelow 65000) (MakesPassing p t) (making t is) (claims_of bundle)
      (all_made bundle a.labelled) (made_below 65000 s (few_sites s a.within))

  module _ (t : Tid) (is : IsTid t) (N : FlatMap) (h : AreFit S N) (q : Request) (sound : IsSoundRequest s rights a q) where
    abbrev m : Meant
    m = meaning bundle N q t 1000000

    passing : OnlyPassing p m
    passing = meant_passes p bundle t (makes t is) N q 1000000 sound.names (λ o x e. (known_sound N h o x e).references)

    small_rows : HasSmall N
    small_rows o x e = (known_sound N h o x e).numbers

    shapes : AreShaped bundle.classes m.map
    shapes = (shape_kept bundle (fits s rights a 0).fitting t N q 1000000 (λ o x e. (known_sound N h o x e).shape) sound.fitting).objects

    -- the name of an object that was neither written nor made is a known one
    name_behind : (o : Oid) (x : Object) → get m.map o ≡ Some x → p o ≡ true
    name_behind o x e = by (is_among o m.made) (is_among o m.written) refl refl
      where
        by : (b c : Bool) → is_among o m.made ≡ b → is_among o m.written ≡ c → p o ≡ true
        by true c i j = passing.made o i
        by false true i j = passing.written o j
        by false false i j = (known_sound N h o x (sym ((leaves N bundle t q 1000000).changes.others o (rw (i, j) refl)) ∙ e)).name

    behind_sound : (o : Oid) (x : Object) → get m.map o ≡ Some x → IsSound bundle rights o x
    behind_sound o x e = record {
      name = name_behind o x e;
      shape = shapes o x e;
      references = passing.objects o x e;
      numbers = objects_small bundle t (program_small s rights a) N q 1000000 sound.numbers small_rows o x e;
    }

    fits_one : IsTrue (flat.ascends N) → AreFit S m.map
    fits_one ordered =
        all_rows (λ o x. IsFit S (o, x)) m.map ((leaves N bundle t q 1000000).changes.ascending ordered)
        (λ o x e. fit_of S bundle 0 (fits s rights a 0) (few s rights a) o x (behind_sound o x e))

    missing_one : (site : ℕ) (o : Oid) → m.ending ≡ Missing site o → IsFitName S o
    missing_one site o e = name_fits S (few s rights a) o (passing.missing site o e)

    value_one : (v : Value) → m.ending ≡ Ended (Some v) → IsValue sent_version v
    value_one v e =
        value_spelled rights (few s rights a) v (passing.result v e)
        (result_small bundle t (program_small s rights a) N q 1000000 sound.numbers small_rows v e)

  -- whatever is touched was there
  touches_one : (t : Tid) (N : FlatMap) → AreFit S N → (q : Request) → AllByRecursion (IsFitName S) (touched (meaning bundle N q t 1000000).touches)
  touches_one t N h q =
      each_name (IsFitName S) (touched (meaning bundle N q t 1000000).touches)
      (λ o e. let w = (leaves N bundle t q 1000000).stays.was_there o e in (found_row (IsFit S) N h o w.0 w.1).name)

  abbrev Sound : Option Request → Type 0
  Sound q = (x : Request) → q ≡ Some x → IsSoundRequest s rights a x

  fits_by : (q : Option Request) → Sound q → (t : Tid) (N : FlatMap) → IsTid t → IsTrue (flat.ascends N) → AreFit S N → AreFit S (meant_of bundle q t N).map
  fits_by None sound t N is ordered h = h
  fits_by (Some x) sound t N is ordered h = fits_one t is N h x (sound x refl) ordered

  touches_by : (q : Option Request) (t : Tid) (N : FlatMap) → AreFit S N → AllByRecursion (IsFitName S) (touched (meant_of bundle q t N).touches)
  touches_by None t N h = tt
  touches_by (Some x) t N h = touches_one t N h x

  missing_by : (q : Option Request) → Sound q → (t : Tid) (N : FlatMap) (site : ℕ) (o : Oid) → IsTid t → AreFit S N
      → (meant_of bundle q t N).ending ≡ Missing site o → IsFitName S o
  missing_by None sound t N site o is h e = absurd (cc)
  missing_by (Some x) sound t N site o is h e = missing_one t is N h x (sound x refl) site o e

  value_by : (q : Option Request) → Sound q → (t : Tid) (N : FlatMap) (v : Value) → IsTid t → AreFit S N → (meant_of bundle q t N).ending ≡ Ended (Some v) → IsValue sent_version v
  value_by None sound t N v is h e = absurd (cc)
  value_by (Some x) sound t N v is h e = value_one t is N h x (sound x refl) v e

  -- ---- together

  pub evaluates : IsEvaluation S
  evaluates = record {
    local = λ w n t N M v none no e h. local_by bundle t (request_at bundle w n) N M v e h;
    frame = λ w n t N o h. frame_by bundle t (request_at bundle w n) N o h;
    once = λ w n t N h. once_by bundle t (request_at bundle w n) N h;
    written = λ w n t N. written_by bundle t (request_at bundle w n) N;
    made = λ w n t N. made_by bundle t (request_at bundle w n) N;
    fits = λ w n t N is ordered h. fits_by (request_at bundle w n) (asked_sound s rights a w n) t N is ordered h;
    touches = λ w n t N h. touches_by (request_at bundle w n) t N h;
    missing = λ w n t N site o is h e. missing_by (request_at bundle w n) (asked_sound s rights a w n) t N site o is h e;
    absent = λ w n t N site o e. absent_by bundle t (request_at bundle w n) N site o e;
    there = λ w n t N. there_by bundle t (request_at bundle w n) N;
    value = λ w n t N v is h e. value_by (request_at bundle w n) (asked_sound s rights a w n) t N v is h e;
    few_touched = λ w n t N. few_touched_by bundle t (request_at bundle w n) N;
    few_changed = λ w n t N. few_changed_by bundle t (request_at bundle w n) N;
  }
