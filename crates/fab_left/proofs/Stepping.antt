-- One step of what is left, over whatever more objects.
use Rattle.std.specs.Prelude.{unwrap_or}
use Rattle.std.proofs.lemmas.List.{map-append}
use Rattle.std.proofs.Common.{◌≡◌, ℕ, List, [], ◌∷◌, ◌++◌, map, Option, Some, None, refl, sym, ap, ◌∙◌, subst}
use Rattle.fab_base.specs.declared.object.Oid.{Oid}
use Rattle.fab_base.specs.declared.object.Tid.{Tid}
use Rattle.fab_base.specs.declared.object.Value.{Value}
use Rattle.fab_base.specs.declared.object.Value.TheVariants.{Null}
use Rattle.fab_base.specs.declared.object.Stop.{Stop}
use Rattle.fab_base.specs.FlatMap.{FlatMap, put_all}
use Rattle.fab_tree.specs.declared.resolved.Statement.{Statement}
use Rattle.fab_language.specs.Heaps.{Heap}
use Rattle.fab_language.specs.Meaning.{State, End, failed, stopped, missing, Run, goes, ends, M, and_then, back_with}
use Rattle.fab_laws.specs.Runs.{state_behind}
use Rattle.fab_left.specs.Left.{Place, Means, Entry, rest, tried, returning, block, handed, finish, whole, wider, wider_entry, widened, IsFinal, IsSure, Fresh, Stems}
use Rattle.fab_left.specs.Left.{left, IsLeft}
use Rattle.fab_left.specs.Deeds.{Deed, passed, into, again, trying, entering, afterwards, pushed, StaysHere, Enters}
use Rattle.fab_left.specs.Steps.{IsSplit, ended, EndsSo}
use Rattle.fab_left.proofs.Stacks.{deeds_push, call_enters, call_gives, call_ends, next_is, block_over, trial_over, call_over, block_ends, call_ended, trial_fails}
use Rattle.fab_left.proofs.Stacks.{ends_all}

pub missing_not : (site : ℕ) (o : Oid) → missing site o ≡ failed → ⊥
missing_not site o e = cc

module _ (m : Means) (asked : Place) where
  -- what is left of entries behind others
  left_more : (ks js : List Entry) (t : State) (more : FlatMap)
      → left m asked (ks ++ js) t more ≡ whole m asked (finish m (map (wider_entry more) ks ++ map (wider_entry more) js) (goes tt (wider more t)))
  left_more ks js t more = ap (λ l. whole m asked (finish m l (goes tt (wider more t)))) (map-append (wider_entry more) ks js)

  ended_more : (ks js : List Entry) (e : End) (t : State) (more : FlatMap)
      → ended m asked (ks ++ js) e t more ≡ whole m asked (finish m (map (wider_entry more) ks ++ map (wider_entry more) js) (ends e (wider more t)))
  ended_more ks js e t more = ap (λ l. whole m asked (finish m l (ends e (wider more t)))) (map-append (wider_entry more) ks js)

  -- ---- what is over

  pub block_done : (ks : List Entry) (p : Place) (t : State) (more : FlatMap) → left m asked (ks ++ rest p [] ∷ []) t more ≡ left m asked ks t more
  block_done ks p t more = left_more ks (rest p [] ∷ []) t more ∙ ap (whole m asked) (block_over m (map (wider_entry more) ks) p (wider more t))

  pub trial_done : (ks : List Entry) (p : Place) (locals : List Value) (heap : Heap) (ss : List Statement) (t : State) (more : FlatMap)
      → left m asked (ks ++ tried p locals heap ss ∷ []) t more ≡ left m asked ks t more
  trial_done ks p locals heap ss t more =
      left_more ks (tried p locals heap ss ∷ []) t more
      ∙ ap (whole m asked) (trial_over m (map (wider_entry more) ks) p locals (record heap { rows = put_all more heap.rows }) ss (wider more t))

  -- ---- a failure, and any other end

  pub block_failed : (ks : List Entry) (p : Place) (ss : List Statement) (t : State) (more : FlatMap)
      → ended m asked (ks ++ rest p ss ∷ []) failed t more ≡ ended m asked ks failed t more
  block_failed ks p ss t more = ended_more ks (rest p ss ∷ []) failed t more ∙ ap (whole m asked) (block_ends m (map (wider_entry more) ks) p ss failed (wider more t))

  pub call_failed : (ks : List Entry) (callee caller : Place) (locals : List Value) (target : Option ℕ) (t : State) (more : FlatMap)
      → ended m asked (ks ++ returning callee caller locals target ∷ []) failed t more ≡ ended m asked ks failed (record t { locals = locals }) more
  call_failed ks callee caller locals target t more =
      ended_more ks (returning callee caller locals target ∷ []) failed t more
      ∙ ap (whole m asked) (call_ended m (map (wider_entry more) ks) callee caller locals target failed (wider more t))

  pub trial_failed : (ks : List Entry) (p : Place) (locals : List Value) (heap : Heap) (ss : List Statement) (t : State) (more : FlatMap)
      → ended m asked (ks ++ tried p locals heap ss ∷ []) failed t more ≡ left m asked (ks ++ rest p ss ∷ []) (record t { locals = locals; heap = heap }) more
  trial_failed ks p locals heap ss t more =
      ended_more ks (tried p locals heap ss ∷ []) failed t more
      ∙ ap (whole m asked) (trial_fails m (map (wider_entry more) ks) p locals (record heap { rows = put_all more heap.rows }) ss (wider more t))
      ∙ sym (left_more ks (rest p ss ∷ []) (record t { locals = locals; heap = heap }) more)

  pub all_ended : (ks : List Entry) (e : End) → (e ≡ failed → ⊥) → (t : State) (more : FlatMap)
      → ended m asked ks e t more ≡ ends e (record (wider more t) { locals = [] })
  all_ended ks e n t more = ends_all m asked (map (wider_entry more) ks) e n (wider more t)

  -- ---- what a call gives

  module _ (ks : List Entry) (callee caller : Place) (locals : List Value) (target : Option ℕ) (t : State) where
    abbrev calling : List Entry
    calling = ks ++ returning callee caller locals target ∷ []

    abbrev returned : FlatMap → Run (Option Value) → Run (Option Value)
    returned more r = whole m asked (finish m (map (wider_entry more) ks) (and_then (back_with locals r) (handed m caller target)))

    calling_is : (more : FlatMap) → left m asked calling t more ≡ returned more (m.result callee (wider more t))
    calling_is more = left_more ks (returning callee caller locals target ∷ []) t more
        ∙ ap (whole m asked) (call_over m (map (wider_entry more) ks) callee caller locals target (wider more t))

    pub result_lacks : (site : ℕ) (o : Oid) (u : State) → m.result callee t ≡ ends (missing site o) u
        → left m asked calling t [] ≡ ends (missing site o) (record u { locals = [] })
    result_lacks site o u e =
        calling_is [] ∙ ap (returned []) e
        ∙ ends_all m asked (map (wider_entry []) ks) (missing site o) (missing_not site o) (record u { locals = locals })

  -- ---- a statement that comes next

  module _ (tid : Tid) (does : Place → Statement → M Deed) (split : IsSplit m tid does) (known : FlatMap) (ks : List Entry) where
    -- a local takes what was given over more objects as over what is known
    handed_over : (caller : Place) (x : Option ℕ) (v : Option Value) (a w : State) → Stems tid known a.heap.rows → (more : FlatMap) → Fresh tid known more
        → handed m caller x v a ≡ goes tt w → handed m caller x v (wider more a) ≡ goes tt (wider more w)
    handed_over caller None v a w st more fresh h = ap (widened more) h
    handed_over caller (Some x) v a w st more fresh h =
        (split.takes caller x (unwrap_or v Null)).over known a more st fresh (subst (λ q. IsSure q) (sym h) tt) ∙ ap (widened more) h

    good_behind : (callee : Place) (t : State) → Stems tid known t.heap.rows → (v : Option Value) (u : State) → m.result callee t ≡ goes v u → Stems tid known u.heap.rows
    good_behind callee t st v u e = subst (λ (r : Run (Option Value)). Stems tid known (state_behind r).heap.rows) e ((split.results callee).stems known t st)

    module _ (p : Place) (s : Statement) (ss : List Statement) (t : State) where
      abbrev old : List Entry
      old = ks ++ rest p (s ∷ ss) ∷ []

      abbrev behind : FlatMap → Run Deed → Run (Option Value)
      behind more r = whole m asked (finish m (map (wider_entry more) ks) (and_then (and_then r (afterwards m p s)) (λ _. block m p ss)))

      old_is : (more : FlatMap) → left m asked old t more ≡ behind more (does p s (wider more t))
      old_is more =
          left_more ks (rest p (s ∷ ss) ∷ []) t more
          ∙ ap (whole m asked) (next_is m (map (wider_entry more) ks) p s ss (wider more t) (does p s) (split.leads_on p s (wider more t)))

      pub act_lacks : (site : ℕ) (o : Oid) (u : State) → does p s t ≡ ends (missing site o) u → left m asked old t [] ≡ ends (missing site o) (record u { locals = [] })
      act_lacks site o u e =
          old_is [] ∙ ap (behind []) e
          ∙ ends_all m asked (map (wider_entry []) ks) (missing site o) (missing_not site o) u

      module _ (st : Stems tid known t.heap.rows) where
        with_run : (r : Run Deed) → does p s t ≡ r → IsSure r → (more : FlatMap) → Fresh tid known more → left m asked old t more ≡ behind more (widened more r)
        with_run r e sure more fresh =
            old_is more ∙ ap (behind more) ((split.acts p s).over known t more st fresh (subst (λ q. IsSure q) (sym e) sure) ∙ ap (widened more) e)

        wider_pushed : (u : State) (more : FlatMap) (d : Deed) → map (wider_entry more) (pushed p s ss u d) ≡ pushed p s ss (wider more u) d
        wider_pushed u more passed = refl
        wider_pushed u more (into a) = refl
        wider_pushed u more (again a) = refl
        wider_pushed u more (trying a b) = refl
        wider_pushed u more (entering number args target) = refl

        pub act_goes : (d : Deed) (u : State) → StaysHere d → does p s t ≡ goes d u → IsLeft m asked tid known (ks ++ pushed p s ss u d) u old t
        act_goes d u h e more fresh =
            with_run (goes d u) e tt more fresh
            ∙ ap (whole m asked) (sym (deeds_push m p s ss (wider more u) (map (wider_entry more) ks) d h))
            ∙ ap (λ l. whole m asked (finish m (map (wider_entry more) ks ++ l) (goes tt (wider more u)))) (sym (wider_pushed u more d))
            ∙ sym (left_more ks (pushed p s ss u d) u more)

        -- a call that enters a method, whatever the objects
        pub act_enters : (number : ℕ) (args : List Value) (target : Option ℕ) (callee : Place) (locals : List Value) (u : State)
            → does p s t ≡ goes (entering number args target) u
            → ((w : State) → Enters m p number args w callee locals)
            → IsLeft m asked tid known (ks ++ rest p ss ∷ returning callee p u.locals target ∷ rest callee callee.method.body ∷ []) (record u { locals = locals }) old t
        act_enters number args target callee locals u e f more fresh =
            with_run (goes (entering number args target) u) e tt more fresh
            ∙ ap (whole m asked) (sym (call_enters m p s ss (wider more u) (map (wider_entry more) ks) number args target callee locals (f (wider more u))))
            ∙ sym (left_more ks (rest p ss ∷ returning callee p u.locals target ∷ rest callee callee.method.body ∷ []) (record u { locals = locals }) more)

        good_act : (d : Deed) (u : State) → does p s t ≡ goes d u → Stems tid known u.heap.rows
        good_act d u e = subst (λ (r : Run Deed). Stems tid known (state_behind r).heap.rows) e ((split.acts p s).stems known t st)

        -- a call that gives a value at once, whatever the objects
        pub call_passes : (number : ℕ) (args : List Value) (target : Option ℕ) (v : Option Value) (u w : State) → does p s t ≡ goes (entering number args target) u
            → ((z : State) → m.call p number args z ≡ goes v z) → handed m p target v u ≡ goes tt w → IsLeft m asked tid known (ks ++ rest p ss ∷ []) w old t
        call_passes number args target v u w e f h more fresh =
            with_run (goes (entering number args target) u) e tt more fresh
            ∙ ap (whole m asked) (sym (call_gives m p s ss (wider more u) (map (wider_entry more) ks) number args target v (wider more u) (f (wider more u)))
            ∙ ap (finish m (map (wider_entry more) ks ++ rest p ss ∷ [])) (handed_over p target v u w (good_act (entering number args target) u e) more fresh h))
            ∙ sym (left_more ks (rest p ss ∷ []) w more)

        pub call_stops : (number : ℕ) (args : List Value) (target : Option ℕ) (stop : Stop) (u : State) → does p s t ≡ goes (entering number args target) u
            → ((w : State) → m.call p number args w ≡ ends (stopped stop) w) → EndsSo m asked tid known ks (stopped stop) u old t
        call_stops number args target stop u e f more fresh =
            with_run (goes (entering number args target) u) e tt more fresh
            ∙ ap (whole m asked) (sym (call_ends m p s ss (wider more u) (map (wider_entry more) ks) number args target (stopped stop) (wider more u) (f (wider more u))))

        pub act_ends : (e : End) (u : State) → IsFinal e → does p s t ≡ ends e u → EndsSo m asked tid known ks e u old t
        act_ends e u sure i more fresh = with_run (ends e u) i sure more fresh

    -- ---- what a call gives

    module _ (callee caller : Place) (locals : List Value) (target : Option ℕ) (t : State) (st : Stems tid known t.heap.rows) where
      with_result : (r : Run (Option Value)) → m.result callee t ≡ r → IsSure r → (more : FlatMap) → Fresh tid known more
          → left m asked (calling ks callee caller locals target t) t more ≡ returned ks callee caller locals target t more (widened more r)
      with_result r e sure more fresh =
          calling_is ks callee caller locals target t more
          ∙ ap (returned ks callee caller locals target t more) ((split.results callee).over known t more st fresh (subst (λ q. IsSure q) (sym e) sure)
          ∙ ap (widened more) e)

      -- the method's result, and whoever takes it
      pub call_returns : (v : Option Value) (u w : State) → m.result callee t ≡ goes v u → handed m caller target v (record u { locals = locals }) ≡ goes tt w
          → IsLeft m asked tid known ks w (calling ks callee caller locals target t) t
      call_returns v u w e h more fresh =
          with_result (goes v u) e tt more fresh
          ∙ ap (λ r. whole m asked (finish m (map (wider_entry more) ks) r))
          (handed_over caller target v (record u { locals = locals }) w (good_behind callee t st v u e) more fresh h)

      pub result_ends : (e : End) (u : State) → IsFinal e → m.result callee t ≡ ends e u
          → EndsSo m asked tid known ks e (record u { locals = locals }) (calling ks callee caller locals target t) t
      result_ends e u sure i more fresh = with_result (ends e u) i sure more fresh

  -- ---- nothing is left but the result of the method that was asked for

  pub result_last : (tid : Tid) (does : Place → Statement → M Deed) → IsSplit m tid does → (known : FlatMap) (t : State) → Stems tid known t.heap.rows
      → IsSure (m.result asked t)
      → (more : FlatMap) → Fresh tid known more → left m asked [] t more ≡ widened more (back_with [] (m.result asked t))
  result_last tid does split known t st sure more fresh = ap (back_with []) ((split.results asked).over known t more st fresh sure) ∙ by (m.result asked t)
    where
      by : (r : Run (Option Value)) → back_with [] (widened more r) ≡ widened more (back_with [] r)
      by (goes v u) = refl
      by (ends e u) = refl
