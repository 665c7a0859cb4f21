-- The entries of a stack, as it grows and shrinks, and what each step makes of what is left.
use Rattle.std.proofs.Common.{◌≡◌, ℕ, suc, List, [], ◌∷◌, ◌++◌, length, Option, refl, sym, ap, ◌∙◌, arith, append_assoc}
use Rattle.fab_base.specs.declared.object.Oid.{Oid}
use Rattle.fab_base.specs.declared.object.Tid.{Tid}
use Rattle.fab_base.specs.declared.object.Value.{Value}
use Rattle.fab_base.specs.declared.object.Stop.{Stop}
use Rattle.fab_base.specs.FlatMap.{FlatMap}
use Rattle.fab_tree.specs.declared.resolved.Statement.{Statement}
use Rattle.fab_language.specs.Heaps.{Heap}
use Rattle.fab_language.specs.Meaning.{State, goes, ends, failed, stopped, missing, M}
use Rattle.fab_left.specs.Left as left
use Rattle.fab_left.specs.Left.{Place, Means, left, rest, tried, returning, handed, AllStem, DiffersLittle, IsFinal}
use Rattle.fab_left.specs.Deeds.{Deed, StaysHere, pushed, entering, Enters}
use Rattle.fab_left.specs.Steps.{EndsSo, IsSplit}
use Rattle.fab_left.proofs.Stepping.{act_goes, act_enters, act_ends, act_lacks, call_passes, call_returns, result_ends, result_lacks, block_done, trial_done}
use Rattle.fab_left.proofs.Stemming.{act_stems, end_stems, popped_stems, entered_stems, passed_stems, returned_stems, result_end_stems}
use Rattle.fab_stack.specs.declared.stack.Entry.{Entry}
use Rattle.fab_stack.specs.declared.stack.Entry.TheVariants.{Rest, Tried, Returning}
use Rattle.fab_stack.specs.Points.{under}
use Rattle.fab_stack.specs.Stacks.{entries_of, trials}
use Rattle.fab_stack.specs.Stepping.{GoesOn, FailsSo, LacksSo}

-- ---- one entry more

pub trials_same : (ks : List Entry) (k : Entry) → trials (k ∷ []) ≡ 0 → trials (ks ++ k ∷ []) ≡ trials ks
trials_same [] k e = e
trials_same (Rest method ss depth ∷ ks) k e = trials_same ks k e
trials_same (Tried method locals otherwise depth ∷ ks) k e = ap suc (trials_same ks k e)
trials_same (Returning callee depth caller caller_depth locals target ∷ ks) k e = trials_same ks k e

pub trials_more : (ks : List Entry) (k : Entry) → trials (k ∷ []) ≡ 1 → trials (ks ++ k ∷ []) ≡ suc (trials ks)
trials_more [] k e = e
trials_more (Rest method ss depth ∷ ks) k e = trials_more ks k e
trials_more (Tried method locals otherwise depth ∷ ks) k e = ap suc (trials_more ks k e)
trials_more (Returning callee depth caller caller_depth locals target ∷ ks) k e = trials_more ks k e

behind_same : (ks : List Entry) (k : Entry) (heaps : List Heap) → trials (k ∷ []) ≡ 0 → entries_of (ks ++ k ∷ []) heaps ≡ entries_of ks heaps ++ entries_of (k ∷ []) heaps
behind_same [] k heaps e = refl
behind_same (Rest method ss depth ∷ ks) k heaps e = ap (λ l. left.rest (record { method = method.now; depth = depth }) ss.now ∷ l) (behind_same ks k heaps e)
behind_same (Tried method locals otherwise depth ∷ ks) k heaps e = rw (trials_same ks k e, behind_same ks k heaps e) refl
behind_same (Returning callee depth caller caller_depth locals target ∷ ks) k heaps e = rw (behind_same ks k heaps e) refl

behind_more : (ks : List Entry) (k : Entry) (h : Heap) (heaps : List Heap) → trials (k ∷ []) ≡ 1 → entries_of (ks ++ k ∷ []) (h ∷ heaps) ≡ entries_of ks heaps ++ entries_of (k ∷ []) (h ∷ heaps)
behind_more [] k h heaps e = refl
behind_more (Rest method ss depth ∷ ks) k h heaps e = rw (behind_more ks k h heaps e) refl
behind_more (Tried method locals otherwise depth ∷ ks) k h heaps e = rw (trials_more ks k e, behind_more ks k h heaps e) refl
behind_more (Returning callee depth caller caller_depth locals target ∷ ks) k h heaps e = rw (behind_more ks k h heaps e) refl

pub put_one : (old new : List Entry) (k : Entry) (heaps : List Heap) → new ≡ old ++ k ∷ [] → trials (k ∷ []) ≡ 0 → entries_of new heaps ≡ entries_of old heaps ++ entries_of (k ∷ []) heaps
put_one old new k heaps e n = ap (λ l. entries_of l heaps) e ∙ behind_same old k heaps n

pub put_two : (old mid new : List Entry) (j k : Entry) (heaps : List Heap) → mid ≡ old ++ j ∷ [] → new ≡ mid ++ k ∷ [] → trials (j ∷ []) ≡ 0 → trials (k ∷ []) ≡ 0
    → entries_of new heaps ≡ entries_of old heaps ++ (entries_of (j ∷ []) heaps ++ entries_of (k ∷ []) heaps)
put_two old mid new j k heaps e f n o =
    put_one mid new k heaps f o ∙ ap (λ l. l ++ entries_of (k ∷ []) heaps) (put_one old mid j heaps e n) ∙ append_assoc (entries_of old heaps) (entries_of (j ∷ []) heaps) (entries_of (k ∷ []) heaps)

pub put_try : (old new : List Entry) (k : Entry) (h : Heap) (heaps : List Heap) → new ≡ old ++ k ∷ [] → trials (k ∷ []) ≡ 1 → entries_of new (h ∷ heaps) ≡ entries_of old heaps ++ entries_of (k ∷ []) (h ∷ heaps)
put_try old new k h heaps e n = ap (λ l. entries_of l (h ∷ heaps)) e ∙ behind_more old k h heaps n

-- the end of a block that is tried is over, and with it the heap that was saved for it
pub take_try : (old new : List Entry) (k : Entry) (heaps : List Heap) → old ≡ new ++ k ∷ [] → trials (k ∷ []) ≡ 1 → trials old ≡ length heaps → entries_of old heaps ≡ entries_of new (under heaps) ++ entries_of (k ∷ []) heaps
take_try old new k [] e n m = absurd (none (sym (trials_more new k n) ∙ ap trials (sym e) ∙ m))
  where
    none : suc (trials new) ≡ 0 → ⊥
    none f = omega (arith, f)
take_try old new k (h ∷ heaps) e n m = put_try new old k h heaps e n

pub counts_try : (old new : List Entry) (k : Entry) (heaps : List Heap) → old ≡ new ++ k ∷ [] → trials (k ∷ []) ≡ 1 → trials old ≡ length heaps → trials new ≡ length (under heaps)
counts_try old new k [] e n m = absurd (none (sym (trials_more new k n) ∙ ap trials (sym e) ∙ m))
  where
    none : suc (trials new) ≡ 0 → ⊥
    none f = omega (arith, f)
counts_try old new k (h ∷ heaps) e n m = counted (sym (trials_more new k n) ∙ ap trials (sym e) ∙ m)
  where
    counted : suc (trials new) ≡ suc (length heaps) → trials new ≡ length heaps
    counted f = omega (arith, f)

pub counts_same : (old new : List Entry) (k : Entry) (n : ℕ) → new ≡ old ++ k ∷ [] → trials (k ∷ []) ≡ 0 → trials old ≡ n → trials new ≡ n
counts_same old new k n e z m = ap trials e ∙ trials_same old k z ∙ m

pub counts_back : (old new : List Entry) (k : Entry) (n : ℕ) → old ≡ new ++ k ∷ [] → trials (k ∷ []) ≡ 0 → trials old ≡ n → trials new ≡ n
counts_back old new k n e z m = sym (ap trials e ∙ trials_same new k z) ∙ m

pub counts_more : (old new : List Entry) (k : Entry) (n : ℕ) → new ≡ old ++ k ∷ [] → trials (k ∷ []) ≡ 1 → trials old ≡ n → trials new ≡ suc n
counts_more old new k n e z m = ap trials e ∙ trials_more old k z ∙ ap suc m

-- ---- steps

module _ (m : Means) (tid : Tid) (does : Place → Statement → M Deed) (split : IsSplit m tid does) (first : Place) (known : FlatMap) where
  -- a statement led to what stays in its block
  pub leads_here : (ks : List left.Entry) (p : Place) (s : Statement) (ss : List Statement) (t u : State) (d : Deed) (new : List left.Entry) → StaysHere d → does p s t ≡ goes d u → AllStem tid known (ks ++ rest p (s ∷ ss) ∷ []) t
      → new ≡ ks ++ pushed p s ss u d → GoesOn m first tid known (ks ++ rest p (s ∷ ss) ∷ []) t new u
  leads_here ks p s ss t u d new here e st is = rw is (record {
    same = act_goes m first tid does split known ks p s ss t st.state d u here e;
    stem = act_stems tid known m does split ks p s ss t u st d e;
  })

  -- a call enters its method
  pub enters_on : (ks : List left.Entry) (p : Place) (s : Statement) (ss : List Statement) (t u w : State) (number : ℕ) (args : List Value) (target : Option ℕ) (callee : Place) (locals : List Value) (new : List left.Entry)
      → does p s t ≡ goes (entering number args target) u → ((z : State) → Enters m p number args z callee locals) → AllStem tid known (ks ++ rest p (s ∷ ss) ∷ []) t
      → w ≡ record u { locals = locals } → new ≡ ks ++ rest p ss ∷ returning callee p u.locals target ∷ rest callee callee.method.body ∷ []
      → GoesOn m first tid known (ks ++ rest p (s ∷ ss) ∷ []) t new w
  enters_on ks p s ss t u w number args target callee locals new e f st i is = rw (i, is) (record {
    same = act_enters m first tid does split known ks p s ss t st.state number args target callee locals u e f;
    stem = entered_stems tid known ks p callee ss callee.method.body target u locals (act_stems tid known m does split ks p s ss t u st (entering number args target) e);
  })

  -- a call of no method gives nothing
  pub passes_on : (ks : List left.Entry) (p : Place) (s : Statement) (ss : List Statement) (t u w : State) (number : ℕ) (args : List Value) (target : Option ℕ) (v : Option Value) (new : List left.Entry)
      → does p s t ≡ goes (entering number args target) u → ((z : State) → m.call p number args z ≡ goes v z) → handed m p target v u ≡ goes tt w → AllStem tid known (ks ++ rest p (s ∷ ss) ∷ []) t
      → new ≡ ks ++ rest p ss ∷ [] → GoesOn m first tid known (ks ++ rest p (s ∷ ss) ∷ []) t new w
  passes_on ks p s ss t u w number args target v new e f h st is = rw is (record {
    same = call_passes m first tid does split known ks p s ss t st.state number args target v u w e f h;
    stem = passed_stems tid known m does split (ks ++ rest p ss ∷ []) p target v u w (act_stems tid known m does split ks p s ss t u st (entering number args target) e) h;
  })

  pub act_fails : (ks : List left.Entry) (p : Place) (s : Statement) (ss : List Statement) (t u : State) → does p s t ≡ ends failed u → AllStem tid known (ks ++ rest p (s ∷ ss) ∷ []) t
      → FailsSo m first tid known (ks ++ rest p (s ∷ ss) ∷ []) t ks u
  act_fails ks p s ss t u e st = record {
    same = act_ends m first tid does split known ks p s ss t st.state failed u tt e;
    stem = end_stems tid known m does split ks p s ss t u st failed e;
  }

  pub act_stops : (ks : List left.Entry) (p : Place) (s : Statement) (ss : List Statement) (t u : State) (stop : Stop) → does p s t ≡ ends (stopped stop) u → AllStem tid known (ks ++ rest p (s ∷ ss) ∷ []) t
      → EndsSo m first tid known ks (stopped stop) u (ks ++ rest p (s ∷ ss) ∷ []) t
  act_stops ks p s ss t u stop e st = act_ends m first tid does split known ks p s ss t st.state (stopped stop) u tt e

  pub act_misses : (ks : List left.Entry) (p : Place) (s : Statement) (ss : List Statement) (t u : State) (site : ℕ) (o : Oid) (new : List left.Entry) → does p s t ≡ ends (missing site o) u
      → new ≡ ks ++ rest p (s ∷ ss) ∷ [] → LacksSo m first site o (ks ++ rest p (s ∷ ss) ∷ []) t new u
  act_misses ks p s ss t u site o new e is = record {
    lacks = act_lacks m first tid does split known ks p s ss t site o u e;
    same = is;
    waits = (split.acts p s).misses t site o u e;
  }

  -- ---- what is over

  pub block_passes : (ks : List left.Entry) (p : Place) (t : State) → AllStem tid known (ks ++ rest p [] ∷ []) t → GoesOn m first tid known (ks ++ rest p [] ∷ []) t ks t
  block_passes ks p t st = record {
    same = λ more fresh. block_done m first ks p t more;
    stem = popped_stems tid known ks (rest p []) t t.locals st;
  }

  pub trial_passes : (ks new : List left.Entry) (p : Place) (locals : List Value) (heap : Heap) (ss : List Statement) (t : State) → AllStem tid known (ks ++ tried p locals heap ss ∷ []) t → new ≡ ks
      → GoesOn m first tid known (ks ++ tried p locals heap ss ∷ []) t new t
  trial_passes ks new p locals heap ss t st is = rw is (record {
    same = λ more fresh. trial_done m first ks p locals heap ss t more;
    stem = popped_stems tid known ks (tried p locals heap ss) t t.locals st;
  })

  -- ---- the end of a call

  pub result_passes : (ks : List left.Entry) (callee caller : Place) (locals : List Value) (target : Option ℕ) (t u w : State) (v : Option Value) → m.result callee t ≡ goes v u
      → handed m caller target v (record u { locals = locals }) ≡ goes tt w → AllStem tid known (ks ++ returning callee caller locals target ∷ []) t
      → GoesOn m first tid known (ks ++ returning callee caller locals target ∷ []) t ks w
  result_passes ks callee caller locals target t u w v e h st = record {
    same = call_returns m first tid does split known ks callee caller locals target t st.state v u w e h;
    stem = returned_stems tid known m does split ks callee caller locals target t u st v w e h;
  }

  pub result_fails : (ks : List left.Entry) (callee caller : Place) (locals : List Value) (target : Option ℕ) (t u w : State) → m.result callee t ≡ ends failed u → w ≡ record u { locals = locals }
      → AllStem tid known (ks ++ returning callee caller locals target ∷ []) t → FailsSo m first tid known (ks ++ returning callee caller locals target ∷ []) t ks w
  result_fails ks callee caller locals target t u w e i st = rw i (record {
    same = result_ends m first tid does split known ks callee caller locals target t st.state failed u tt e;
    stem = result_end_stems tid known m does split ks callee caller locals target t u st failed e;
  })

  pub result_stops : (ks : List left.Entry) (callee caller : Place) (locals : List Value) (target : Option ℕ) (t u w : State) (stop : Stop) → m.result callee t ≡ ends (stopped stop) u → w ≡ record u { locals = locals }
      → AllStem tid known (ks ++ returning callee caller locals target ∷ []) t → EndsSo m first tid known ks (stopped stop) w (ks ++ returning callee caller locals target ∷ []) t
  result_stops ks callee caller locals target t u w stop e i st = rw i (result_ends m first tid does split known ks callee caller locals target t st.state (stopped stop) u tt e)

  pub result_misses : (ks : List left.Entry) (callee caller : Place) (locals : List Value) (target : Option ℕ) (t u : State) (site : ℕ) (o : Oid) (new : List left.Entry) → m.result callee t ≡ ends (missing site o) u
      → new ≡ ks ++ returning callee caller locals target ∷ [] → LacksSo m first site o (ks ++ returning callee caller locals target ∷ []) t new u
  result_misses ks callee caller locals target t u site o new e is = record {
    lacks = result_lacks m first ks callee caller locals target t site o u e;
    same = is;
    waits = (split.results callee).misses t site o u e;
  }
