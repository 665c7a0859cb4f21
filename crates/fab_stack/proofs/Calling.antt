-- What a call leads into, by the entries that are put on the stack.
use Rattle.std.proofs.Common.{◌≡◌, ℕ, zero, suc, ◌-◌, List, [], ◌∷◌, ◌++◌, Option, None, refl, sym, ◌∙◌, subst, arith, append_assoc}
use Rattle.fab_base.specs.declared.object.Tid.{Tid}
use Rattle.fab_base.specs.declared.object.Value.{Value}
use Rattle.fab_base.specs.declared.object.Stop.TheVariants.{Depth}
use Rattle.fab_base.specs.FlatMap.{FlatMap}
use Rattle.fab_tree.specs.declared.resolved.Method.{Method}
use Rattle.fab_tree.specs.declared.resolved.Statement.{Statement}
use Rattle.fab_language.specs.Heaps.{Heap}
use Rattle.fab_language.specs.Meaning.{State, M, goes, ends, failed, stopped}
use Rattle.fab_left.specs.Left as left
use Rattle.fab_left.specs.Left.{Place, Means, left, rest, returning, handed, AllStem}
use Rattle.fab_left.specs.Deeds.{Deed, entering, Enters}
use Rattle.fab_left.specs.Steps.{IsSplit}
use Rattle.fab_left.proofs.Stepping.{all_ended, call_stops}
use Rattle.fab_stack.specs.declared.stack.Entry.{Entry}
use Rattle.fab_stack.specs.Stacks.{behind, entries_of, trials, place}
use Rattle.fab_stack.specs.Calls.{IsStopped}
use Rattle.fab_stack.specs.Stepping.{GoesOn}
use Rattle.fab_stack.proofs.Stacks.{put_one, enters_on, passes_on}
use Rattle.fab_stack.proofs.Behind.{behind_on}

-- so many calls more, of which at least one
open_more : (depth : ℕ) → (depth ≡ 0 → ⊥) → suc (depth - 1) ≡ depth
open_more zero ne = absurd (ne refl)
open_more (suc d) ne = omega arith

module _ (m : Means) (tid : Tid) (does : Place → Statement → M Deed) (split : IsSplit m tid does) (caller : Method) (number : ℕ) (args : List Value) where
  module _ (first : Place) (known : FlatMap) (ks : List left.Entry) (s : Statement) (ss : List Statement) (t u : State) (target : Option ℕ) (depth : ℕ) (e : does (place caller depth) s t ≡ goes (entering number args target) u)
      (st : AllStem tid known (ks ++ rest (place caller depth) (s ∷ ss) ∷ []) t) where
    pub call_deep : IsStopped m caller number args → depth ≡ 0 → left m first (ks ++ rest (place caller depth) (s ∷ ss) ∷ []) t [] ≡ ends (stopped Depth) (record u { locals = [] })
    call_deep f z =
        call_stops m first tid does split known ks (place caller depth) s ss t st.state number args target Depth u e
        (subst (λ (n : ℕ). (w : State) → m.call (place caller n) number args w ≡ ends (stopped Depth) w) (sym z) f) [] tt
        ∙ all_ended m first ks (stopped Depth) no u []
      where
        no : stopped Depth ≡ failed → ⊥
        no g = cc

    pub call_skips : (new : List left.Entry) (w : State) (v : Option Value) → ((d : ℕ) (z : State) → m.call (place caller d) number args z ≡ goes v z) → handed m (place caller depth) target v u ≡ goes tt w → new ≡ ks ++ rest (place caller depth) ss ∷ []
        → GoesOn m first tid known (ks ++ rest (place caller depth) (s ∷ ss) ∷ []) t new w
    call_skips new w v f h is = passes_on m tid does split first known ks (place caller depth) s ss t u w number args target v new e (f depth) h st is

    pub call_none : (new : List left.Entry) (w : State) → (depth ≡ 0 → ⊥) → ((d : ℕ) (z : State) → m.call (place caller (suc d)) number args z ≡ goes None z) → handed m (place caller depth) target None u ≡ goes tt w → new ≡ ks ++ rest (place caller depth) ss ∷ []
        → GoesOn m first tid known (ks ++ rest (place caller depth) (s ∷ ss) ∷ []) t new w
    call_none new w ne f h is =
        passes_on m tid does split first known ks (place caller depth) s ss t u w number args target None new e
        (subst (λ (n : ℕ). (z : State) → m.call (place caller n) number args z ≡ goes None z) (open_more depth ne) (f (depth - 1))) h st is

    pub call_enters : (mid new : List Entry) (k : Entry) (heaps : List Heap) (w : State) (method : Method) (body : List Statement) (locals callees : List Value) → (depth ≡ 0 → ⊥)
        → ((d : ℕ) (z : State) → Enters m (place caller (suc d)) number args z (place method d) callees)
        → w ≡ record u { locals = callees } → locals ≡ u.locals → body ≡ method.body → entries_of mid heaps ≡ behind ks (place caller depth) ss
        → new ≡ mid ++ k ∷ [] → trials (k ∷ []) ≡ 0 → entries_of (k ∷ []) heaps ≡ returning (place method (depth - 1)) (place caller depth) locals target ∷ []
        → GoesOn m first tid known (ks ++ rest (place caller depth) (s ∷ ss) ∷ []) t (entries_of new heaps ++ rest (place method (depth - 1)) body ∷ []) w
    call_enters mid new k heaps w method body locals callees ne enters wis lis bis f g x is =
        let p = place caller depth in
        let q = place method (depth - 1) in
        let a = returning q p u.locals target in
        let js = ks ++ rest p (s ∷ ss) ∷ [] in
        rw (put_one mid new k heaps g x, f, is, lis, bis)
        (subst (λ (l : List left.Entry). GoesOn m first tid known js t l w) (sym (append_assoc (behind ks p ss) (a ∷ []) (rest q method.body ∷ [])))
        (behind_on m first tid known js t ks (a ∷ rest q method.body ∷ []) p w ss
        (enters_on m tid does split first known ks p s ss t u w number args target q callees (ks ++ rest p ss ∷ a ∷ rest q method.body ∷ []) e
        (subst (λ (n : ℕ). (z : State) → Enters m (place caller n) number args z q callees) (open_more depth ne) (enters (depth - 1))) st wis refl)))
