-- Each touch comes from the arguments or from a field of a known object that was touched before.
use Rattle.std.proofs.Common.{◌≡◌, inl, inr, ℕ, ◌-◌, List, [], ◌∷◌, ◌++◌, Option, Some, Bool, true, false, ◌||◌, if◌then◌else◌, append_assoc, append-nil, refl, sym, ap, ◌∙◌, subst, None, ◌⊎◌}
use Rattle.std.specs.Prelude.{slice_get, slice_set, unwrap_or, IfSome}
use Rattle.std.specs.List.{AllByRecursion}
use Rattle.std.proofs.lemmas.Bool.{true≢false}
use Rattle.fab_base.specs.declared.object.Oid.{Oid}
use Rattle.fab_base.specs.declared.object.Object.{Object}
use Rattle.fab_base.specs.declared.object.Tid.{Tid}
use Rattle.fab_base.specs.declared.object.Value.{Value}
use Rattle.fab_base.specs.declared.object.Value.TheVariants.{Int, Null, Ref}
use Rattle.fab_base.specs.declared.object.Width.TheVariants as widths
use Rattle.fab_base.specs.FlatMap.{FlatMap, get, put, is_same}
use Rattle.fab_base.proofs.NameOrder.{one_name}
use Rattle.fab_base.proofs.Names.{same_self}
use Rattle.fab_map.proofs.Rows.{get-put_same, get-put_other}
use Rattle.fab_tree.specs.declared.resolved.Sort.{Sort}
use Rattle.fab_tree.specs.declared.resolved.Sort.TheVariants as sorts
use Rattle.fab_tree.specs.declared.resolved.Request.{Request}
use Rattle.fab_tree.specs.declared.resolved.Resolved.{Resolved}
use Rattle.fab_language.specs.declared.ending.Ending.TheVariants.{Ended}
use Rattle.fab_language.specs.Heaps.{Heap, is_among, touched, noted, is_changed, with_row}
use Rattle.fab_language.specs.Meaning.{State, failed, stopped, missing, Run, with_field, next_name, default, locals_at_start, requested, meant_by, meaning, state_at_start}
use Rattle.fab_laws.specs.Kinds.{Kind, Claim, parameter_kinds}
use Rattle.fab_laws.specs.Changes.{has_pair}
use Rattle.fab_laws.specs.Origins.{is_to, refer, ComesFrom, from_arguments, from_object, EachComesFrom, IsFrom, HasOrigins}
use Rattle.fab_laws.proofs.Names.{or_true, or_parts, among_more, among_last, touched_still, touched_now, changed_again, written_more, made_too, with_written}
use Rattle.fab_laws.proofs.Values.{at_place, all_set, all_at_start, number_leads_nowhere}
use Rattle.fab_laws.proofs.Walk as w
use Rattle.fab_laws.proofs.Walk.{Result, on, off, Finds, made_one, touched_one, Replaces, again, fresh}
use Rattle.fab_base.specs.Values.{referred}
use Rattle.fab_base.proofs.Lists.{all_along}

-- what holds of each value, if it holds of numbers, of null, and of the names to which one of these refers
all_refer : (P : Value → Type 0) (whole vs : List Value) → ((v : Value) → ((o : Oid) → is_to o v ≡ true → P (Ref o)) → P v) → ((o : Oid) → refer o vs ≡ true → refer o whole ≡ true) → ((o : Oid) → refer o whole ≡ true → P (Ref o)) → AllByRecursion P vs
all_refer P whole [] by sub h = tt
all_refer P whole (v ∷ vs) by sub h = (by v (λ o e. h o (sub o (ap (λ b. b || refer o vs) e))), all_refer P whole vs by (λ o e. sub o (ap (λ b. is_to o v || b) e ∙ or_true (is_to o v))) h)

module _ (known : FlatMap) (args : List Value) where
  -- more touches
  more_before : (before after : List (ℕ × Oid)) (o : Oid) → ((q : Oid) → is_among q (touched before) ≡ true → is_among q (touched after) ≡ true) → ComesFrom known args before o → ComesFrom known args after o
  more_before before after o g (from_arguments e) = from_arguments e
  more_before before after o g (from_object q x i e r) = from_object q x (g q i) e r

  last_from : (before ts : List (ℕ × Oid)) (t : ℕ × Oid) → EachComesFrom known args before ts → ComesFrom known args (before ++ ts) t.1 → EachComesFrom known args before (ts ++ t ∷ [])
  last_from before [] t h c = (subst (λ l. ComesFrom known args l t.1) (append-nil before) c, tt)
  last_from before (x ∷ ts) t h c = (h.0, last_from (before ++ x ∷ []) ts t h.1 (subst (λ l. ComesFrom known args l t.1) (sym (append_assoc before (x ∷ []) ts)) c))

  noted_from : (site : ℕ) (o : Oid) (ts : List (ℕ × Oid)) → EachComesFrom known args [] ts → ComesFrom known args ts o → EachComesFrom known args [] (noted site o ts)
  noted_from site o ts h c = elim (has_pair site o ts) as (λ b. EachComesFrom known args [] (if b then ts else ts ++ (site, o) ∷ [])) [ true ↦ h | false ↦ last_from [] ts (site, o) h c ]

  module _ (program : Resolved) (tid : Tid) where
    abbrev From : State → Value → Type 0
    From t = IsFrom known args t.touches t.heap.made

    pub record Traced (ls : List Kind) (t : State) : Type 0 where
      pub locals : AllByRecursion (From t) t.locals
      pub others : (o : Oid) → is_changed o t.heap ≡ false → get t.heap.rows o ≡ get known o
      pub rows : (o : Oid) (x : Object) → is_changed o t.heap ≡ true → get t.heap.rows o ≡ Some x → AllByRecursion (From t) x.fields
      pub touches : EachComesFrom known args [] t.touches

    abbrev Has : State → Kind → Value → Type 0
    Has t k v = From t v

    pub record Then (t u : State) : Type 0 where
      pub touched_still : (o : Oid) → is_among o (touched t.touches) ≡ true → is_among o (touched u.touches) ≡ true
      pub made_still : (o : Oid) → is_among o t.heap.made ≡ true → is_among o u.heap.made ≡ true

    abbrev Lacks : ℕ → Oid → Type 0
    Lacks site o = Unit {0}

    abbrev Meets : Claim → Type 0
    Meets c = Unit {0}

    abbrev Next : List Kind → State → State → Type 0
    Next = w.Next program tid Traced Has Then Lacks Meets

    still_referred : (t u : State) (o : Option Oid) → Then t u → IfSome o (λ p. ComesFrom known args t.touches p ⊎ (is_among p t.heap.made ≡ true))
        → IfSome o (λ p. ComesFrom known args u.touches p ⊎ (is_among p u.heap.made ≡ true))
    still_referred t u None g h = tt
    still_referred t u (Some o) g (inl c) = inl (more_before t.touches u.touches o g.touched_still c)
    still_referred t u (Some o) g (inr i) = inr (g.made_still o i)

    still : (t u : State) (v : Value) → Then t u → From t v → From u v
    still t u v = still_referred t u (referred v)

    all_still : (t u : State) (vs : List Value) → Then t u → AllByRecursion (From t) vs → AllByRecursion (From u) vs
    all_still t u vs g h = all_along (From t) (From u) (λ v p. still t u v g p) vs h

    same : (t u : State) → u.heap ≡ t.heap → u.touches ≡ t.touches → Then t u
    same t u e g = record {
      touched_still = λ o i. subst (λ ts. is_among o (touched ts) ≡ true) (sym g) i;
      made_still = λ o i. subst (λ a. is_among o a.made ≡ true) (sym e) i;
    }

    -- a value by the names that it refers to
    by_names : (t : State) (v : Value) → ((o : Oid) → is_to o v ≡ true → From t (Ref o)) → From t v
    by_names t (Int n) h = tt
    by_names t Null h = tt
    by_names t (Ref o) h = h o (same_self o)

    of_default : (t : State) (s : Sort) → From t (default s)
    of_default t (sorts.Number widths.Int) = tt
    of_default t (sorts.Class c) = tt

    -- the map stays as it is
    quiet : (ls ms : List Kind) (t u : State) → Traced ls t → AllByRecursion (From t) u.locals → u.heap ≡ t.heap → u.touches ≡ t.touches → Next ms t u
    quiet ls ms t u h l e g =
        let n = same t u e g in
        record {
          holds = record {
            locals = all_still t u u.locals n l;
            others = subst (λ a. (o : Oid) → is_changed o a ≡ false → get a.rows o ≡ get known o) (sym e) h.others;
            rows = λ o x i j. all_still t u x.fields n (h.rows o x (subst (λ a. is_changed o a ≡ true) e i) (subst (λ a. get a.rows o ≡ Some x) e j));
            touches = subst (EachComesFrom known args []) (sym g) h.touches;
          };
          later = n;
        }

    touching : (ls : List Kind) (t : State) (site : ℕ) (o : Oid) (x : Object) (ts : List (ℕ × Oid)) → Traced ls t → From t (Ref o) → w.Finds program tid Traced Has Then Lacks Meets t site o x ts → Next ls t (record t { touches = ts })
    touching ls t site o x _ h p (made_one g i) = quiet ls ls t t h h.locals refl refl
    touching ls t site o x _ h p (touched_one g i j) =
        let u : State = record t { touches = noted site o t.touches } in
        let n : Then t u = record { touched_still = λ q e. touched_still site o q t.touches e; made_still = λ q e. e } in
        record {
          holds = record { locals = all_still t u t.locals n h.locals; others = h.others; rows = λ q y c e. all_still t u y.fields n (h.rows q y c e); touches = noted_from site o t.touches h.touches (was_there p) };
          later = n;
        }
      where
        was_there : From t (Ref o) → ComesFrom known args t.touches o
        was_there (inl c) = c
        was_there (inr e) = absurd (true≢false (sym e ∙ i))

    -- each value of an object that is found
    found_from : (ls : List Kind) (t : State) (site : ℕ) (o : Oid) (x : Object) (ts : List (ℕ × Oid)) → Traced ls t → From t (Ref o) → w.Finds program tid Traced Has Then Lacks Meets t site o x ts → AllByRecursion (From (record t { touches = ts })) x.fields
    found_from ls t site o x _ h p (made_one g i) = h.rows o x (ap (λ b. b || is_among o t.heap.written) i) g
    found_from ls t site o x _ h p (touched_one g i j) = by_change (is_changed o t.heap) refl
      where
        u : State
        u = record t { touches = noted site o t.touches }

        by_change : (b : Bool) → is_changed o t.heap ≡ b → AllByRecursion (From (record t { touches = noted site o t.touches })) x.fields
        by_change true e = all_still t (record t { touches = noted site o t.touches }) x.fields (touching ls t site o x (noted site o t.touches) h p (touched_one g i j)).later (h.rows o x e g)
        by_change false e = all_refer (From (record t { touches = noted site o t.touches })) x.fields x.fields (by_names (record t { touches = noted site o t.touches })) (λ q r. r) (λ q r. inl (from_object o x (touched_now site o t.touches) (sym (h.others o e) ∙ g) r))

    -- an object is put into the map, and nothing else is changed but names
    putting : (ls : List Kind) (t u : State) (o : Oid) (y : Object) → Traced ls t → AllByRecursion (From t) y.fields → u.heap.rows ≡ put o y t.heap.rows → u.locals ≡ t.locals → u.touches ≡ t.touches → ((q : Oid) → is_among q t.heap.made ≡ true → is_among q u.heap.made ≡ true) → ((q : Oid) → is_changed q u.heap ≡ (is_same o q || is_changed q t.heap)) → Next ls t u
    putting ls t u o y h a e l g m c =
        let n : Then t u = record { touched_still = λ q i. subst (λ ts. is_among q (touched ts) ≡ true) (sym g) i; made_still = m } in
        record {
          holds = record {
            locals = subst (AllByRecursion (From u)) (sym l) (all_still t u t.locals n h.locals);
            others = λ q i. let p = or_parts (is_same o q) (is_changed q t.heap) (sym (c q) ∙ i) in ap (λ k. get k q) e ∙ get-put_other o q y t.heap.rows p.0 ∙ h.others q p.1;
            rows = λ q z i j. all_still t u z.fields n (by_same q z i (ap (λ k. get k q) (sym e) ∙ j) (is_same o q) refl);
            touches = subst (EachComesFrom known args []) (sym g) h.touches;
          };
          later = n;
        }
      where
        one : (x z : Object) → Some x ≡ Some z → x ≡ z
        one x z f = cc

        by_same : (q : Oid) (z : Object) → is_changed q u.heap ≡ true → get (put o y t.heap.rows) q ≡ Some z → (b : Bool) → is_same o q ≡ b → AllByRecursion (From t) z.fields
        by_same q z i j true f = subst (λ x. AllByRecursion (From t) x.fields) (one y z (sym (ap (get (put o y t.heap.rows)) (sym (one_name o q f)) ∙ get-put_same o y t.heap.rows) ∙ j)) a
        by_same q z i j false f = h.rows q z (sym (c q ∙ ap (λ b. b || is_changed q t.heap) f) ∙ i) (sym (get-put_other o q y t.heap.rows f) ∙ j)

    then_on : (t u v : State) → Then t u → Then u v → Then t v
    then_on t u v g h = record { touched_still = λ o i. h.touched_still o (g.touched_still o i); made_still = λ o i. h.made_still o (g.made_still o i) }

    behind : (ls : List Kind) (t u v : State) → Then t u → Next ls u v → Next ls t v
    behind ls t u v n m = record { holds = m.holds; later = then_on t u v n m.later }

    writing : (ls : List Kind) (t : State) (site field : ℕ) (o : Oid) (v : Value) (x : Object) (ts : List (ℕ × Oid)) (g : Heap) → Traced ls t → From t (Ref o) → From t v → w.Finds program tid Traced Has Then Lacks Meets t site o x ts → w.Replaces program tid Traced Has Then Lacks Meets t o (with_field field v x) g → Next ls t (record t { touches = ts; heap = g })
    writing ls t site field o v x ts g h p q e r =
        let u : State = record t { touches = ts } in
        let n = touching ls t site o x ts h p e in
        let a : AllByRecursion (From u) (with_field field v x).fields = all_set (From u) x.fields field v (still t u v n.later q) (found_from ls t site o x ts h p e) in
        behind ls t u (record t { touches = ts; heap = g }) n.later (by_way n.holds a g r)
      where
        by_way : Traced ls (record t { touches = ts }) → AllByRecursion (From (record t { touches = ts })) (with_field field v x).fields → (g : Heap) → w.Replaces program tid Traced Has Then Lacks Meets t o (with_field field v x) g → Next ls (record t { touches = ts }) (record t { touches = ts; heap = g })
        by_way h a _ (again c) = putting ls (record t { touches = ts }) (record t { touches = ts; heap = with_row o (with_field field v x) t.heap }) o (with_field field v x) h a refl refl refl (λ q i. i) (λ q. changed_again o q t.heap c)
        by_way h a _ (fresh c s) = putting ls (record t { touches = ts }) (record t { touches = ts; heap = with_written o (with_field field v x) t.heap }) o (with_field field v x) h a refl refl refl (λ q i. i) (λ q. written_more o q t.heap)

    making : (ls : List Kind) (t : State) (store class site : ℕ) (vs : List Value) → Traced ls t → AllByRecursion (From t) vs → Next ls t (w.behind_new program tid Traced Has Then Lacks Meets t store class site vs)
    making ls t store class site vs h a =
        let o = next_name tid store class site t.heap in
        putting ls t (w.behind_new program tid Traced Has Then Lacks Meets t store class site vs) o (record { class = class; fields = vs }) h a refl refl refl (λ q i. among_more q o t.heap.made ∙ ap (λ b. b || is_same o q) i) (λ q. made_too o q t.heap)

    kept : w.IsKept program tid Traced Has Then Lacks Meets
    kept = record {
      same = λ t. same t t refl refl;
      then_on = then_on;
      of_number = λ t w v e. number_leads_nowhere _ w v e;
      operated = λ t k l a b v i h g. number_leads_nowhere _ i.width v i.is_one;
      of_null = λ t. tt;
      still = λ t u k v g h. still t u v g h;
      fitted = λ t taker k v m h. h;
      at_local = λ ls t x h. at_place (From t) t.locals x Null tt h.locals;
      charged = λ ls t h. quiet ls ls t (record t { fuel = t.fuel - 1 }) h h.locals refl refl;
      assigned = λ ls t x v h p. quiet ls ls t (record t { locals = slice_set t.locals x v }) h (all_set (From t) t.locals x v p h.locals) refl refl;
      lacked = λ ls t k site o h p e. tt;
      touched = λ ls t k site o x ts h p e. touching ls t site o x ts h p e;
      at_field = λ ls t k site field o x ts h p e. at_place (From (record t { touches = ts })) x.fields field Null tt (found_from ls t site o x ts h p e);
      wrote = λ ls t k l site field o v x ts g h p m q e r. writing ls t site field o v x ts g h p q e r;
      created = λ ls t store class site vs h m g r. making ls t store class site vs h (w.each_is program tid Traced Has Then Lacks Meets t (From t) (λ k v p. p) _ vs g.each);
      of_name = λ ls t store class site vs h m r. inr (among_last (next_name tid store class site t.heap) t.heap.made);
      downed = λ ls t k site v h p. quiet ls ls t (record t { downs = t.downs ++ (site, v) ∷ [] }) h h.locals refl refl;
      put_back = λ ls t u h g k.
          let n : Then t (record u { locals = t.locals; heap = t.heap }) = record { touched_still = g.touched_still; made_still = λ o i. i } in
          record {
            holds = record { locals = all_still t (record u { locals = t.locals; heap = t.heap }) t.locals n h.locals; others = h.others; rows = λ o x i j. all_still t (record u { locals = t.locals; heap = t.heap }) x.fields n (h.rows o x i j); touches = k.touches };
            later = n;
          };
      entered = λ ls t m args h g. quiet ls _ t (record t { locals = locals_at_start m args }) h (all_at_start (From t) (of_default t) m args (w.each_is program tid Traced Has Then Lacks Meets t (From t) (λ k v p. p) _ args g.each)) refl refl;
      left = λ ls ms t u h g k. record {
        holds = record { locals = all_still t u t.locals g h.locals; others = k.others; rows = k.rows; touches = k.touches };
        later = record { touched_still = g.touched_still; made_still = g.made_still };
      };
      moved = λ t k v vs h. h;
    }

    module _ (request : Request) (fuel : ℕ) (given : request.args ≡ args) where
      abbrev start : State
      start = state_at_start known fuel

      abbrev Out : Run (Option Value) → Type 0
      Out = w.Result program tid Traced Has Then Lacks Meets [] start (w.Answers program tid Traced Has Then Lacks Meets kept (slice_get program.methods request.method))

      from_args : AllByRecursion (From start) request.args
      from_args = all_refer (From start) args request.args (by_names start) (λ o e. ap (refer o) (sym given) ∙ e) (λ o e. inl (from_arguments e))

      out : Out (requested program tid request start)
      out = w.all_calls program tid Traced Has Then Lacks Meets kept (λ i m e. w.unasked program m) 64 [] start request.method request.args
          (record { locals = tt; others = λ o i. refl; rows = λ o x i e. absurd (true≢false (sym i)); touches = tt })
          (record { count = tt; each = w.each_has program tid Traced Has Then Lacks Meets start (From start) (λ k v p. p) (parameter_kinds (slice_get program.methods request.method)) request.args from_args })

      result_by : (u : State) (a : Option Value) (v : Value) → Ended a ≡ Ended (Some v) → From u (unwrap_or a Null) → From u v
      result_by u a v e h = let q : a ≡ Some v = cc in subst (λ b. From u (unwrap_or b Null)) q h

      origins_by : (r : Run (Option Value)) → Out r → HasOrigins known args (meant_by r)
      origins_by _ (on a u n p) = record { touches = n.holds.touches; result = λ v e. result_by u a v e p }
      origins_by _ (off failed u n p) = record { touches = n.holds.touches; result = λ v e. cc }
      origins_by _ (off (stopped stop) u n p) = record { touches = n.holds.touches; result = λ v e. cc }
      origins_by _ (off (missing site o) u n p) = record { touches = n.holds.touches; result = λ v e. cc }

      pub meant_from : HasOrigins known args (meaning program known request tid fuel)
      meant_from = origins_by (requested program tid request start) out
