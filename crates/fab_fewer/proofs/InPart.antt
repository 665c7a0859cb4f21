-- Over a part of the shown objects.
use Rattle.std.proofs.Common.{◌≡◌, ◌≢◌, ℕ, List, [], ◌∷◌, ◌++◌, Option, None, Bool, true, false, not, ◌||◌, if◌then◌else◌, append_assoc, refl, sym, ap, ◌∙◌, subst, true≢false}
use Rattle.std.specs.Prelude.{slice_get, IsTrue}
use Rattle.std.specs.List.{filter, AllByRecursion}
use Rattle.std.proofs.lemmas.List.Elements.{filter-append}
use Rattle.fab_base.specs.declared.object.Oid.{Oid}
use Rattle.fab_base.specs.declared.object.Stop.TheVariants.{Reads}
use Rattle.fab_base.specs.declared.object.Tid.{Tid}
use Rattle.fab_base.specs.declared.object.Value.{Value}
use Rattle.fab_base.specs.FlatMap.{FlatMap, get, is_same, ascends}
use Rattle.fab_base.proofs.NameOrder.{one_name}
use Rattle.fab_tree.specs.declared.resolved.Request.{Request}
use Rattle.fab_tree.specs.declared.resolved.Resolved.{Resolved}
use Rattle.fab_language.specs.declared.ending.Ending.{Ending}
use Rattle.fab_language.specs.declared.ending.Ending.TheVariants.{Ended, Failed, Stopped, Missing}
use Rattle.fab_language.specs.Heaps.{is_among, touched}
use Rattle.fab_language.specs.Meaning.{gives, Meant, meant_by, meaning, state_at_start}
use Rattle.fab_laws.specs.Locality.{IsPart, IsSameOver}
use Rattle.fab_laws.specs.Shapes.{IsFitting, AreShaped}
use Rattle.fab_laws.proofs.Kept.{get_shown}
use Rattle.fab_laws.proofs.Locality.{goes_on, meaning_knows, missing_full}
use Rattle.fab_erasure.specs.Erased as erase
use Rattle.fab_erasure.specs.Erased.{erased, blank_result, skips, called}
use Rattle.fab_erasure.specs.Agreement.{touch_in_view, touches_in_view, goes_into_view, given_by, rows_shown, begins_in_view, IsView, IsSettled, IsFront, Agrees}
use Rattle.fab_erasure.proofs.Agrees.{erasure_agrees}
use Rattle.fab_erasure.proofs.Views.{among_seen}
use Rattle.fab_fewer.specs.Fewer.{AreKnown, IsOverFewer}
use Rattle.fab_fewer.specs.InPart.{IsSameInView, AgreesInPart, WroteInView, ViewsReplay}
use Rattle.fab_fewer.proofs.Fewer.{does_over_fewer}

ended_full : (v : Option Value) → Ended v ≡ Stopped Reads → ⊥
ended_full v e = cc

failed_full : Failed ≡ Stopped Reads → ⊥
failed_full e = cc

-- a request that is skipped comes to a blank
not_false : (b : Bool) → not b ≡ false → b ≡ true
not_false true e = refl
not_false false e = absurd (true≢false e)

pub skipped : (sees shows : ℕ → Bool) (r : Resolved) (known : FlatMap) (request : Request) (tid : Tid) (fuel : ℕ) (given : List Value)
    → begins_in_view sees shows r request ≡ false → (erased sees shows r known request tid fuel given).ending ≡ Ended (blank_result sees shows (slice_get r.methods request.method))
skipped sees shows r known request tid fuel given e =
    let start = record (state_at_start known fuel) { given = given } in
    ap (λ b. (meant_by ((if b then gives (blank_result sees shows (slice_get r.methods request.method))
    else erase.entered sees shows r.classes tid (called sees shows r tid 63) (slice_get r.methods request.method) request.args) start)).ending)
    (not_false (skips sees shows (slice_get r.methods request.method)) e)

-- what holds of each is had of one among them
pub among_all : (p : Oid → Bool) (o : Oid) (os : List Oid) → AllByRecursion (λ q. IsTrue (p q)) os → is_among o os ≡ true → p o ≡ true
among_all p o [] h i = absurd (true≢false (sym i))
among_all p o (q ∷ os) h i = by_name (is_same q o) refl i (among_all p o os h.1)
  where
    by_name : (b : Bool) → is_same q o ≡ b → (b || is_among o os) ≡ true → (is_among o os ≡ true → p o ≡ true) → p o ≡ true
    by_name true e j k = subst (λ z. p z ≡ true) (one_name q o e) h.0
    by_name false e j k = k j

either : (a b c d : Bool) → a ≡ c → b ≡ d → (c || d) ≡ true → (a || b) ≡ true
either a b c d e f i = ap (λ z. z || b) e ∙ ap (λ z. c || z) f ∙ i

module _ (sees shows : ℕ → Bool) (r : Resolved) (view : IsView sees shows r) (answers : FlatMap) (request : Request) (tid : Tid) (fuel : ℕ)
    (up : IsTrue (ascends answers)) (shaped : AreShaped r.classes answers) (fits : IsFitting r request) where
  abbrev full : Meant
  full = meaning r answers request tid fuel

  abbrev given : List Value
  given = given_by sees shows r full

  abbrev over : FlatMap → Meant
  over m = erased sees shows r m request tid fuel given

  abbrev whole : Meant
  whole = over (rows_shown sees shows r answers)

  abbrev touched_in_view : List (ℕ × Oid)
  touched_in_view = touches_in_view sees shows r full

  agrees : Agrees sees shows r request full whole
  agrees = erasure_agrees sees shows r answers request tid fuel view up shaped fits

  abbrev is_shown : Oid → Bool
  is_shown o = shows o.class

  pub wrote : WroteInView sees shows r full
  wrote s o v i = among_all (λ q. is_among q (touched touched_in_view)) o (filter is_shown full.written) (agrees.wrote s) (among_seen is_shown o full.written v ∙ i)

  -- a run that is settled isn't stopped when it is erased
  not_full : IsSettled sees shows r full.ending → whole.ending ≢ Stopped Reads
  not_full s = by_begin (begins_in_view sees shows r request) refl
    where
      by_ending : begins_in_view sees shows r request ≡ true → (x : Ending) → full.ending ≡ x → IsSettled sees shows r x → whole.ending ≢ Stopped Reads
      by_ending b (Ended v) e z j = ended_full _ (sym (agrees.ended v b e) ∙ j)
      by_ending b Failed e z j = failed_full (sym (agrees.failed b e) ∙ j)
      by_ending b (Missing site o) e z j = missing_full site o (sym (agrees.missing site o e z) ∙ j)
      by_ending b (Stopped stop) e z j = absurd z

      by_begin : (b : Bool) → begins_in_view sees shows r request ≡ b → whole.ending ≢ Stopped Reads
      by_begin true b j = by_ending b full.ending refl s j
      by_begin false b j = ended_full _ (sym (skipped sees shows r (rows_shown sees shows r answers) request tid fuel given b) ∙ j)

  module _ (few : FlatMap) (part : IsPart few (rows_shown sees shows r answers)) where
    less : IsOverFewer few (rows_shown sees shows r answers) whole (over few)
    less = does_over_fewer sees shows r request tid fuel given few (rows_shown sees shows r answers) part

    -- what is touched in view is what the erased run touches
    same_touches : IsSettled sees shows r full.ending → touched_in_view ≡ whole.touches
    same_touches s = agrees.touches s ∙ agrees.plain

    same : AreKnown few touched_in_view → IsSettled sees shows r full.ending → IsSameOver few whole (over few)
    same w s = less.same (subst (AreKnown few) (same_touches s) w) (not_full s)

    made_alike : IsSettled sees shows r full.ending → (o : Oid) → is_shown o ≡ true → is_among o whole.made ≡ is_among o full.made
    made_alike s o v = sym (among_seen is_shown o whole.made v) ∙ ap (is_among o) (sym (agrees.made s)) ∙ among_seen is_shown o full.made v

    written_alike : IsSettled sees shows r full.ending → (o : Oid) → is_shown o ≡ true → is_among o whole.written ≡ is_among o full.written
    written_alike s o v = sym (among_seen is_shown o whole.written v) ∙ ap (is_among o) (sym (agrees.written s)) ∙ among_seen is_shown o full.written v

    same_object : IsSameOver few whole (over few) → IsSettled sees shows r full.ending → (o : Oid) → IsTrue (shows o.class) → IsTrue (is_among o full.made || is_among o full.written)
        → get (over few).map o ≡ get full.map o
    same_object z s o v i =
        z.map o
        ∙ ap (λ b. if b then get whole.map o else get few o)
        (either (is_among o whole.made) (is_among o whole.written) (is_among o full.made) (is_among o full.written) (made_alike s o v) (written_alike s o v) i)
        ∙ sym (get_shown is_shown o whole.map v) ∙ ap (λ m. get m o) (sym (agrees.rows s)) ∙ get_shown is_shown o full.map v

    same_in_view : AreKnown few touched_in_view → IsSettled sees shows r full.ending → IsSameInView sees shows r full (over few)
    same_in_view w s =
        let z = same w s in
        record {
          touches = z.touches ∙ sym (same_touches s);
          downs = ap (filter (λ (d : ℕ × Value). goes_into_view sees shows r d.0)) z.downs ∙ sym (agrees.downs s);
          written = z.written ∙ sym agrees.plain_written ∙ sym (agrees.written s);
          made = ap (filter is_shown) z.made ∙ sym (agrees.made s);
          names = z.made ∙ sym agrees.plain_made ∙ sym (agrees.names s);
          objects = same_object z s;
        }

    goes_at : (before : List (ℕ × Oid)) (site : ℕ) (o : Oid) (after : List (ℕ × Oid)) → touched_in_view ≡ before ++ (site, o) ∷ after → AreKnown few before → get few o ≡ None
        → ((over few).ending ≡ Missing site o) × ((over few).touches ≡ before)
    goes_at before site o after e w z =
        let front = agrees.touches_so_far in
        let is : whole.touches ≡ before ++ (site, o) ∷ (after ++ front.rest)
        = sym agrees.plain ∙ sym front.is ∙ ap (λ l. l ++ front.rest) e ∙ append_assoc before ((site, o) ∷ after) front.rest in
        let l = less.lacks before site o (after ++ front.rest) is w z in
        (l.ending, l.touches)

    pub in_part : AgreesInPart sees shows r request full few (over few)
    in_part = record {
      goes = goes_at;
      misses = λ w site o e v. (same w (subst (IsSettled sees shows r) (sym e) v)).ending ∙ agrees.missing site o e v;
      ends = λ w b v e. (same w (subst (IsSettled sees shows r) (sym e) tt)).ending ∙ agrees.ended v b e;
      fails = λ w b e. (same w (subst (IsSettled sees shows r) (sym e) tt)).ending ∙ agrees.failed b e;
      same = same_in_view;
      ascending = λ w s. less.ascending (subst (AreKnown few) (same_touches s) w) (not_full s);
      skips = λ b. skipped sees shows r few request tid fuel given b;
    }

-- what is in view grows with what is known
front_of : {A : Type 0} (p : A → Bool) (xs ys : List A) → (more : List A) × (ys ≡ xs ++ more) → IsFront (filter p xs) (filter p ys)
front_of p xs ys m = record { rest = filter p m.0; is = sym (ap (filter p) m.1 ∙ filter-append p xs m.0) }

pub views_replay : ViewsReplay
views_replay sees shows r view = record {
  known = λ answers request tid fuel. meaning_knows r request tid fuel answers;
  grows = λ answers more request tid fuel part.
      let g = goes_on answers more r request tid fuel part in
      record {
        touches = front_of (touch_in_view sees shows r) (meaning r answers request tid fuel).touches (meaning r more request tid fuel).touches g.touches;
        downs = front_of (λ (d : ℕ × Value). goes_into_view sees shows r d.0) (meaning r answers request tid fuel).downs (meaning r more request tid fuel).downs g.downs;
      };
  wrote = λ answers request tid fuel up shaped fits. wrote sees shows r view answers request tid fuel up shaped fits;
  in_part = λ answers few request tid fuel up shaped fits part. in_part sees shows r view answers request tid fuel up shaped fits few part;
}
