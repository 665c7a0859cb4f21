-- What somebody sees of a request over fewer objects.
use Rattle.std.proofs.Common.{◌≡◌, ℕ, List, [], ◌∷◌, ◌++◌, Some, None, Bool, true, false, refl, sym, ap, ◌∙◌, subst, not}
use Rattle.fab_base.specs.declared.object.Oid.{Oid}
use Rattle.fab_base.specs.declared.object.Object.{Object}
use Rattle.fab_base.specs.declared.object.Tid.{Tid}
use Rattle.fab_base.specs.declared.object.Value.{Value}
use Rattle.fab_base.specs.FlatMap.{FlatMap, get, is_same}
use Rattle.fab_base.proofs.NameOrder.{one_name}
use Rattle.fab_base.proofs.Names.{same_self}
use Rattle.fab_tree.specs.declared.resolved.Request.{Request}
use Rattle.fab_tree.specs.declared.resolved.Resolved.{Resolved}
use Rattle.fab_labelling.specs.Sites.{method_sites}
use Rattle.fab_language.specs.Meaning.{State, Meant}
use Rattle.fab_laws.specs.Locality.{IsPart, IsSameOver}
use Rattle.fab_laws.proofs.Everywhere.{Anywhere}
use Rattle.fab_laws.proofs.Fewer.{over, Near, Fewer, Keeps, both_go, steps}
use Rattle.fab_laws.proofs.Kept.{get_shown, get_unshown}
use Rattle.fab_laws.proofs.Locality as l
use Rattle.fab_laws.proofs.Locality.{IsLocal, missing_full}
use Rattle.fab_laws.proofs.Touches.{none_some}
use Rattle.fab_erasure.specs.Erased as erase
use Rattle.fab_erasure.specs.Erased.{called, erased, taken}
use Rattle.fab_erasure.proofs.Everywhere as everywhere
use Rattle.fab_erasure.proofs.Everywhere.{nowhere}
use Rattle.fab_erasure.proofs.Grows.{grows_given}
use Rattle.fab_fewer.specs.Fewer.{AreKnown, LacksAt, DoesOverFewer, DoesTheSame, less, DoesWithout, KnowsAllTouched, MeaningOverFewer}

-- the given values are the same
takes : (few many : FlatMap) (part : IsPart few many) (blank : Value) → Keeps few many part (erase.take_given blank)
takes few many part blank = record { grows = grows_given blank; by = λ t k n w. by_given t k n w t.given }
  where
    by_given : (t : State) (k : FlatMap) → Near few many part t.heap k → AreKnown few t.touches → (vs : List Value)
        → Fewer few many part (taken blank vs t) (taken blank vs (over k t))
    by_given t k n w [] = both_go blank t k n w
    by_given t k n w (v ∷ vs) = both_go v (record t { given = vs }) k n w

module _ (sees shows : ℕ → Bool) (r : Resolved) (request : Request) (tid : Tid) where
  local : IsLocal (called sees shows r tid 64 request.method request.args)
  local few many part =
      everywhere.all_calls (λ A m. Keeps few many part {A = A} m) Anywhere sees shows
      (record { steps = steps few many part Anywhere shows; took = takes few many part }) r tid
      (λ i m e. nowhere sees (method_sites r.classes m)) 64 request.method request.args

pub does_over_fewer : DoesOverFewer
does_over_fewer sees shows r request tid fuel given = l.law (called sees shows r tid 64 request.method request.args) (local sees shows r request tid) fuel given

pub knows_all_touched : KnowsAllTouched
knows_all_touched sees shows r known request tid fuel given =
    l.knows_own (called sees shows r tid 64 request.method request.args) (local sees shows r request tid) fuel given known

pub does_the_same : DoesTheSame
does_the_same sees shows r request tid fuel given = l.same_over (called sees shows r tid 64 request.method request.args) (local sees shows r request tid) fuel given

pub meaning_over_fewer : MeaningOverFewer
meaning_over_fewer = l.meaning_over_fewer

module _ (sees shows : ℕ → Bool) (r : Resolved) (request : Request) (tid : Tid) (fuel : ℕ) (given : List Value) where
  abbrev done : FlatMap → Meant
  done m = erased sees shows r m request tid fuel given

  -- ---- the many without the first object that is lacked

  module _ (few many : FlatMap) (part : IsPart few many) (before : List (ℕ × Oid)) (site : ℕ) (o : Oid) (after : List (ℕ × Oid))
      (is : (done many).touches ≡ before ++ (site, o) ∷ after) (known : AreKnown few before) (unknown : get few o ≡ None) where
    other : (p : Oid) (x : Object) → get few p ≡ Some x → not (is_same p o) ≡ true
    other p x e = by_name (is_same p o) refl
      where
        by_name : (b : Bool) → is_same p o ≡ b → not b ≡ true
        by_name true i = absurd (none_some x (sym unknown ∙ ap (get few) (sym (one_name p o i)) ∙ e))
        by_name false i = refl

    few_in_less : IsPart few (less o many)
    few_in_less p x e = get_shown (λ q. not (is_same q o)) p many (other p x e) ∙ part p x e

    less_in_many : IsPart (less o many) many
    less_in_many p x e = by_name (not (is_same p o)) refl
      where
        by_name : (b : Bool) → not (is_same p o) ≡ b → get many p ≡ Some x
        by_name true i = sym (get_shown (λ q. not (is_same q o)) p many i) ∙ e
        by_name false i = absurd (none_some x (sym (get_unshown (λ q. not (is_same q o)) p many i) ∙ e))

    known_in_less : (ts : List (ℕ × Oid)) → AreKnown few ts → AreKnown (less o many) ts
    known_in_less [] k = tt
    known_in_less (t ∷ ts) k = ((k.0.0, few_in_less t.1 k.0.0 k.0.1), known_in_less ts k.1)

    -- the same object is lacked there
    there : LacksAt before site o (done many) (done (less o many))
    there = (does_over_fewer sees shows r request tid fuel given (less o many) many less_in_many).lacks before site o after is (known_in_less before known)
        (get_unshown (λ q. not (is_same q o)) o many (ap not (same_self o)))

    pub same_without : IsSameOver few (done (less o many)) (done few)
    same_without = (does_over_fewer sees shows r request tid fuel given few (less o many) few_in_less).same (subst (AreKnown few) (sym there.touches) known)
        (λ e. missing_full site o (sym there.ending ∙ e))

pub does_without : DoesWithout
does_without sees shows r request tid fuel given few many part before site o after is known unknown =
    same_without sees shows r request tid fuel given few many part before site o after is known unknown
