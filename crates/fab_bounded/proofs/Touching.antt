-- What a request lacks it touches, once it is there.
use Rattle.std.proofs.Common.{◌≡◌, ℕ, ◌<◌, Bool, true, false, List, [], ◌∷◌, ◌++◌, map, length, Option, Some, None, refl, sym, ap, ◌∙◌, subst, arith, append-nil, length-append}
use Rattle.std.proofs.lemmas.List.{map-append}
use Rattle.fab_base.specs.declared.object.Oid.{Oid}
use Rattle.fab_base.specs.declared.object.Object.{Object}
use Rattle.fab_base.specs.declared.object.Tid.{Tid}
use Rattle.fab_base.specs.FlatMap.{FlatMap, get, put, is_same, is_among}
use Rattle.fab_base.proofs.NameOrder.{one_name}
use Rattle.fab_map.proofs.Rows.{get-put_other, get-put_same}
use Rattle.fab_tree.specs.declared.resolved.Request.{Request}
use Rattle.fab_tree.specs.declared.resolved.Resolved.{Resolved}
use Rattle.fab_tree.specs.declared.start.Start.{Start}
use Rattle.fab_language.specs.declared.ending.Ending.TheVariants.{Stopped, Missing}
use Rattle.fab_language.specs.Heaps.{each_once, touched}
use Rattle.fab_language.specs.Meaning.{Meant, meaning}
use Rattle.fab_language.specs.Numbers.{resolved}
use Rattle.fab_laws.specs.Locality.{AgreesOn, IsPart, IsSameOver}
use Rattle.fab_laws.proofs.Changes.{leaves, missing_is_absent}
use Rattle.fab_laws.proofs.Locality.{goes_on, over_more}
use Rattle.fab_laws.proofs.Names.{once_both}
use Rattle.fab_rights.specs.declared.rights.Rights.{Rights}
use Rattle.fab_finite.specs.Finite.{TouchesWhatWasMissing}
use Rattle.fab_settings.specs.Settings.{meant_of, request_at, setting_of}

-- ---- more touches: the objects that were touched stand in front

touched_both : (first more : List (ℕ × Oid)) → (later : List Oid) × (touched (first ++ more) ≡ touched first ++ later)
touched_both first more =
    let objects = λ (ts : List (ℕ × Oid)). map (λ (t : ℕ × Oid). t.1) ts in
    let both = once_both (objects first) (objects more) in
    (both.0, ap each_once (map-append (λ (t : ℕ × Oid). t.1) first more) ∙ both.1)

-- ---- a map and one object more, which it lacks

module _ (N : FlatMap) (o : Oid) (x : Object) (lacks : get N o ≡ None) where
  is_part : IsPart N (put o x N)
  is_part p y found = by (is_same o p) refl
    where
      by : (b : Bool) → is_same o p ≡ b → get (put o x N) p ≡ Some y
      by true same = let none : get N p ≡ None = subst (λ q. get N q ≡ None) (one_name o p same) lacks in let no : None ≡ Some y = sym none ∙ found in absurd (cc)
      by false other = get-put_other o p x N other ∙ found

  -- what the whole has and the part has is the same
  in_part : (p : Oid) (y z : Object) → get N p ≡ Some y → get (put o x N) p ≡ Some z → get N p ≡ Some z
  in_part p y z here there = here ∙ sym (is_part p y here) ∙ there

  none_in_part : (p : Oid) → get (put o x N) p ≡ None → get N p ≡ None
  none_in_part p none = by (get N p) refl
    where
      by : (found : Option Object) → get N p ≡ found → get N p ≡ None
      by None e = e
      by (Some y) e = let no : None ≡ Some y = sym none ∙ is_part p y e in absurd (cc)

  module _ (program : Resolved) (request : Request) (t : Tid) (fuel site other : ℕ) (p : Oid)
      (missing : (meaning program N request t fuel).ending ≡ Missing site o) (lacking : (meaning program (put o x N) request t fuel).ending ≡ Missing other p) where
    abbrev few : Meant
    few = meaning program N request t fuel

    abbrev many : Meant
    many = meaning program (put o x N) request t fuel

    -- if nothing more were touched, it would lack the same
    more_touched : touched many.touches ≡ touched few.touches → ⊥
    more_touched same =
        let absent : get (put o x N) p ≡ None = missing_is_absent (put o x N) program t request fuel other p lacking in
        let again : Missing site o ≡ Missing other p = sym missing ∙ over.ending ∙ lacking in
        let one : o ≡ p = cc in
        let no : Some x ≡ None = sym (get-put_same o x N) ∙ ap (get (put o x N)) one ∙ absent in
        absurd (cc)
      where
        agrees : AgreesOn (put o x N) N many
        agrees = record {
          at_touched = λ q y among found.
              let was = (leaves N program t request fuel).stays.was_there q (subst (λ os. is_among q os ≡ true) same among) in
              in_part q was.0 y was.1 found;
          at_missing = λ at q e. none_in_part q (missing_is_absent (put o x N) program t request fuel at q e);
          at_full = λ e. let no : Missing other p ≡ Stopped _ = sym lacking ∙ e in absurd (cc);
        }

        over : IsSameOver N many few
        over = over_more (put o x N) N program request t fuel agrees

    touches_more : length (touched few.touches) < length (touched many.touches)
    touches_more =
        let on = (goes_on N (put o x N) program request t fuel is_part).touches in
        let both = touched_both few.touches on.0 in
        by both.0 (ap touched on.1 ∙ both.1)
      where
        by : (later : List Oid) → touched many.touches ≡ touched few.touches ++ later → length (touched few.touches) < length (touched many.touches)
        by [] e = absurd (more_touched (e ∙ append-nil (touched few.touches)))
        by (q ∷ later) e =
            let l = ap length e in let a = length-append (touched few.touches) (q ∷ later) in omega (arith, l, a)

-- ---- the setting of a bundle

pub touches : (s : Start) (rights : Rights) → TouchesWhatWasMissing (setting_of (resolved s) rights)
touches s rights w number t N site other o p x missing lacking = by (request_at (resolved s) w number) missing lacking
  where
    by : (q : Option Request) → (meant_of (resolved s) q t N).ending ≡ Missing site o → (meant_of (resolved s) q t (put o x N)).ending ≡ Missing other p
        → length (touched (meant_of (resolved s) q t N).touches) < length (touched (meant_of (resolved s) q t (put o x N)).touches)
    by None e f = absurd (cc)
    by (Some request) e f =
        touches_more N o x (missing_is_absent N (resolved s) t request 1000000 site o e) (resolved s) request t 1000000 site other p e f
