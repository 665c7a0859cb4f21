-- Names that pass a test: where arguments, known objects and new objects have only such, a request has only such.
use Rattle.std.proofs.Common.{◌≡◌, ℕ, ◌-◌, List, [], ◌∷◌, ◌++◌, Option, Some, Bool, true, false, ◌||◌, refl, sym, ap, ◌∙◌, subst, ◌<◌, ◌==◌, arith}
use Rattle.std.specs.Prelude.{slice_get, slice_set, unwrap_or}
use Rattle.std.specs.List.{AllByRecursion}
use Rattle.std.proofs.lemmas.Bool.{true≢false, leb-false}
use Rattle.std.proofs.lemmas.List.Sums.{count_by-le-length}
use Rattle.fab_base.specs.declared.object.Oid.{Oid}
use Rattle.fab_base.specs.declared.object.Object.{Object}
use Rattle.fab_base.specs.declared.object.Tid.{Tid}
use Rattle.fab_base.specs.declared.object.Value.{Value}
use Rattle.fab_base.specs.declared.object.Value.TheVariants.{Null}
use Rattle.fab_base.specs.declared.object.Width.TheVariants as widths
use Rattle.fab_base.specs.FlatMap.{FlatMap, put, is_same}
use Rattle.fab_base.proofs.NameOrder.{one_name}
use Rattle.fab_tree.specs.declared.resolved.Sort.{Sort}
use Rattle.fab_tree.specs.declared.resolved.Sort.TheVariants as sorts
use Rattle.fab_tree.specs.declared.resolved.Request.{Request}
use Rattle.fab_tree.specs.declared.resolved.Resolved.{Resolved}
use Rattle.fab_language.specs.declared.ending.Ending.TheVariants.{Ended}
use Rattle.fab_language.specs.Heaps.{Heap, changed, is_spent, index_at, is_among, touched, noted}
use Rattle.fab_language.specs.Meaning.{State, failed, stopped, missing, Run, with_field, next_name, default, locals_at_start, requested, meant_by, meaning, state_at_start}
use Rattle.fab_laws.specs.Kinds.{Kind, Claim, method_claims, claims_of, parameter_kinds}
use Rattle.fab_laws.specs.Origins.{Passes, AllPass, HasOnlyPassing, MakesPassing, OnlyPassing}
use Rattle.fab_laws.proofs.Names.{or_false, among_more, touched_after}
use Rattle.fab_laws.proofs.Maps.{put_keeps}
use Rattle.fab_laws.proofs.Values.{at_place, all_set, all_at_start, number_leads_nowhere}
use Rattle.fab_laws.proofs.Walk as w
use Rattle.fab_laws.proofs.Walk.{Result, on, off, Finds, made_one, touched_one, Replaces, again, fresh, claims_at}

-- where one change more may come, the next index of a site is below the limit
below_limit : (site : ℕ) (h : Heap) → is_spent h ≡ false → index_at site h < 256
below_limit site h s =
    let lt = leb-false 256 (changed h) s in
    let le = count_by-le-length (λ (o : Oid). o.site == site) h.made in
    omega arith

module _ (p : Oid → Bool) where
  of_default : (s : Sort) → Passes p (default s)
  of_default (sorts.Number widths.Int) = tt
  of_default (sorts.Class c) = tt

  put_passing : (o : Oid) (y : Object) (m : FlatMap) → HasOnlyPassing p m → AllPass p y.fields → HasOnlyPassing p (put o y m)
  put_passing o y m a i = put_keeps (λ q x. AllPass p x.fields) o y m a i

  -- one name more that passes
  last_passes : (o : Oid) (os : List Oid) → ((q : Oid) → is_among q os ≡ true → p q ≡ true) → p o ≡ true → (q : Oid) → is_among q (os ++ o ∷ []) ≡ true → p q ≡ true
  last_passes o os h i q e = by_same (is_same o q) refl
    where
      by_same : (b : Bool) → is_same o q ≡ b → p q ≡ true
      by_same true j = ap p (sym (one_name o q j)) ∙ i
      by_same false j = h q (sym (or_false (is_among q os)) ∙ sym (ap (λ b. is_among q os || b) j) ∙ sym (among_more q o os) ∙ e)

  noted_passes : (site : ℕ) (o : Oid) (ts : List (ℕ × Oid)) → ((q : Oid) → is_among q (touched ts) ≡ true → p q ≡ true) → p o ≡ true → (q : Oid) → is_among q (touched (noted site o ts)) ≡ true → p q ≡ true
  noted_passes site o ts h i q e = by_same (is_same o q) refl
    where
      by_same : (b : Bool) → is_same o q ≡ b → p q ≡ true
      by_same true j = ap p (sym (one_name o q j)) ∙ i
      by_same false j = h q (sym (or_false (is_among q (touched ts))) ∙ sym (ap (λ b. is_among q (touched ts) || b) j) ∙ sym (touched_after site o q ts) ∙ e)

  module _ (program : Resolved) (tid : Tid) where
    pub record Passing (ls : List Kind) (t : State) : Type 0 where
      pub locals : AllPass p t.locals
      pub rows : HasOnlyPassing p t.heap.rows
      pub touches : (o : Oid) → is_among o (touched t.touches) ≡ true → p o ≡ true
      pub written : (o : Oid) → is_among o t.heap.written ≡ true → p o ≡ true
      pub made : (o : Oid) → is_among o t.heap.made ≡ true → p o ≡ true

    abbrev Has : State → Kind → Value → Type 0
    Has t k v = Passes p v

    abbrev Then : State → State → Type 0
    Then t u = Unit {0}

    abbrev Lacks : ℕ → Oid → Type 0
    Lacks site o = p o ≡ true

    abbrev Meets : Claim → Type 0
    Meets = MakesPassing p tid

    abbrev Next : List Kind → State → State → Type 0
    Next = w.Next program tid Passing Has Then Lacks Meets

    nexts : (ls ms : List Kind) (t u : State) → Passing ls t → AllPass p u.locals → u.heap ≡ t.heap → u.touches ≡ t.touches → Next ms t u
    nexts ls ms t u h l e g = record {
      holds = record {
        locals = l;
        rows = subst (λ a. HasOnlyPassing p a.rows) (sym e) h.rows;
        touches = subst (λ ts. (o : Oid) → is_among o (touched ts) ≡ true → p o ≡ true) (sym g) h.touches;
        written = subst (λ a. (o : Oid) → is_among o a.written ≡ true → p o ≡ true) (sym e) h.written;
        made = subst (λ a. (o : Oid) → is_among o a.made ≡ true → p o ≡ true) (sym e) h.made;
      };
      later = tt;
    }

    touching : (ls : List Kind) (t : State) (site : ℕ) (o : Oid) (x : Object) (ts : List (ℕ × Oid)) → Passing ls t → p o ≡ true → w.Finds program tid Passing Has Then Lacks Meets t site o x ts → Next ls t (record t { touches = ts })
    touching ls t site o x _ h i (made_one g j) = nexts ls ls t t h h.locals refl refl
    touching ls t site o x _ h i (touched_one g j k) = record { holds = record { locals = h.locals; rows = h.rows; touches = noted_passes site o t.touches h.touches i; written = h.written; made = h.made }; later = tt }

    found_passes : (ls : List Kind) (t : State) (site : ℕ) (o : Oid) (x : Object) (ts : List (ℕ × Oid)) → Passing ls t → w.Finds program tid Passing Has Then Lacks Meets t site o x ts → AllPass p x.fields
    found_passes ls t site o x _ h (made_one g j) = h.rows o x g
    found_passes ls t site o x _ h (touched_one g j k) = h.rows o x g

    written_passes : (ls : List Kind) (t : State) (o : Oid) (y : Object) (ts : List (ℕ × Oid)) (g : Heap) → Passing ls (record t { touches = ts }) → p o ≡ true → AllPass p y.fields → w.Replaces program tid Passing Has Then Lacks Meets t o y g → Next ls t (record t { touches = ts; heap = g })
    written_passes ls t o y ts _ h i a (again c) = record { holds = record { locals = h.locals; rows = put_passing o y t.heap.rows h.rows a; touches = h.touches; written = h.written; made = h.made }; later = tt }
    written_passes ls t o y ts _ h i a (fresh c s) = record { holds = record { locals = h.locals; rows = put_passing o y t.heap.rows h.rows a; touches = h.touches; written = last_passes o t.heap.written h.written i; made = h.made }; later = tt }

    kept : w.IsKept program tid Passing Has Then Lacks Meets
    kept = record {
      same = λ t. tt;
      then_on = λ t u v g h. tt;
      of_number = λ t w v e. number_leads_nowhere _ w v e;
      operated = λ t k l a b v i h g. number_leads_nowhere _ i.width v i.is_one;
      of_null = λ t. tt;
      still = λ t u k v g h. h;
      fitted = λ t taker k v m h. h;
      at_local = λ ls t x h. at_place (Passes p) t.locals x Null tt h.locals;
      charged = λ ls t h. nexts ls ls t (record t { fuel = t.fuel - 1 }) h h.locals refl refl;
      assigned = λ ls t x v h q. nexts ls ls t (record t { locals = slice_set t.locals x v }) h (all_set (Passes p) t.locals x v q h.locals) refl refl;
      lacked = λ ls t k site o h q e. q;
      touched = λ ls t k site o x ts h q e. touching ls t site o x ts h q e;
      at_field = λ ls t k site field o x ts h q e. at_place (Passes p) x.fields field Null tt (found_passes ls t site o x ts h e);
      wrote = λ ls t k l site field o v x ts g h q m a e r. written_passes ls t o (with_field field v x) ts g (touching ls t site o x ts h q e).holds q (all_set (Passes p) x.fields field v a (found_passes ls t site o x ts h e)) r;
      created = λ ls t store class site vs h m g r.
          let o = next_name tid store class site t.heap in
          let y : Object = record { class = class; fields = vs } in
          record { holds = record { locals = h.locals; rows = put_passing o y t.heap.rows h.rows (w.each_is program tid Passing Has Then Lacks Meets t (Passes p) (λ k v q. q) _ vs g.each); touches = h.touches; written = h.written; made = last_passes o t.heap.made h.made (m o.index (below_limit site t.heap r)) }; later = tt };
      of_name = λ ls t store class site vs h m r. m (next_name tid store class site t.heap).index (below_limit site t.heap r);
      downed = λ ls t k site v h q. nexts ls ls t (record t { downs = t.downs ++ (site, v) ∷ [] }) h h.locals refl refl;
      put_back = λ ls t u h g k. record { holds = record { locals = h.locals; rows = h.rows; touches = k.touches; written = h.written; made = h.made }; later = tt };
      entered = λ ls t m args h g. nexts ls _ t (record t { locals = locals_at_start m args }) h (all_at_start (Passes p) of_default m args (w.each_is program tid Passing Has Then Lacks Meets t (Passes p) (λ k v q. q) _ args g.each)) refl refl;
      left = λ ls ms t u h g k. record { holds = record { locals = h.locals; rows = k.rows; touches = k.touches; written = k.written; made = k.made }; later = tt };
      moved = λ t k v vs h. h;
    }

    module _ (makes : AllByRecursion (MakesPassing p tid) (claims_of program)) (known : FlatMap) (request : Request) (fuel : ℕ) (args : AllPass p request.args) (objects : HasOnlyPassing p known) where
      abbrev start : State
      start = state_at_start known fuel

      abbrev Out : Run (Option Value) → Type 0
      Out = w.Result program tid Passing Has Then Lacks Meets [] start (w.Answers program tid Passing Has Then Lacks Meets kept (slice_get program.methods request.method))

      out : Out (requested program tid request start)
      out = w.all_calls program tid Passing Has Then Lacks Meets kept (λ i m e. claims_at (MakesPassing p tid) (method_claims program.classes program.methods) program.methods i m makes e) 64 [] start request.method request.args
          (record { locals = tt; rows = objects; touches = λ o i. absurd (true≢false (sym i)); written = λ o i. absurd (true≢false (sym i)); made = λ o i. absurd (true≢false (sym i)) })
          (record { count = tt; each = w.each_has program tid Passing Has Then Lacks Meets start (Passes p) (λ k v q. q) (parameter_kinds (slice_get program.methods request.method)) request.args args })

      result_by : (a : Option Value) (v : Value) → Ended a ≡ Ended (Some v) → Passes p (unwrap_or a Null) → Passes p v
      result_by a v e h = let q : a ≡ Some v = cc in subst (λ b. Passes p (unwrap_or b Null)) q h

      passing_by : (r : Run (Option Value)) → Out r → OnlyPassing p (meant_by r)
      passing_by _ (on a u n h) = record { touched = n.holds.touches; written = n.holds.written; made = n.holds.made; missing = λ site o e. cc; objects = n.holds.rows; result = λ v e. result_by a v e h }
      passing_by _ (off failed u n h) = record { touched = n.holds.touches; written = n.holds.written; made = n.holds.made; missing = λ site o e. cc; objects = n.holds.rows; result = λ v e. cc }
      passing_by _ (off (stopped stop) u n h) = record { touched = n.holds.touches; written = n.holds.written; made = n.holds.made; missing = λ site o e. cc; objects = n.holds.rows; result = λ v e. cc }
      passing_by _ (off (missing at q) u n h) = record { touched = n.holds.touches; written = n.holds.written; made = n.holds.made; missing = λ site o e. let same : q ≡ o = cc in ap p (sym same) ∙ h; objects = n.holds.rows; result = λ v e. cc }

      pub meant_passes : OnlyPassing p (meaning program known request tid fuel)
      meant_passes = passing_by (requested program tid request start) out
