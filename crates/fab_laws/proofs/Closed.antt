-- Over a map in which each reference leads to an object, no object is missing, and the map behind is such a map.
use Rattle.std.proofs.Common.{◌≡◌, ℕ, ◌-◌, List, [], ◌∷◌, ◌++◌, Option, Some, None, Bool, true, false, refl, sym, ap, ◌∙◌, subst}
use Rattle.std.specs.Prelude.{slice_get, slice_set, unwrap_or, IfSome}
use Rattle.std.specs.List.{AllByRecursion}
use Rattle.fab_base.specs.declared.object.Oid.{Oid}
use Rattle.fab_base.specs.declared.object.Object.{Object}
use Rattle.fab_base.specs.declared.object.Tid.{Tid}
use Rattle.fab_base.specs.declared.object.Value.{Value}
use Rattle.fab_base.specs.declared.object.Value.TheVariants.{Null}
use Rattle.fab_base.specs.declared.object.Width.TheVariants as widths
use Rattle.fab_base.specs.FlatMap.{FlatMap, get, put, is_same}
use Rattle.fab_base.proofs.NameOrder.{one_name}
use Rattle.fab_map.proofs.Rows.{get-put_same, get-put_other}
use Rattle.fab_tree.specs.declared.resolved.Sort.{Sort}
use Rattle.fab_tree.specs.declared.resolved.Sort.TheVariants as sorts
use Rattle.fab_tree.specs.declared.resolved.Request.{Request}
use Rattle.fab_tree.specs.declared.resolved.Resolved.{Resolved}
use Rattle.fab_language.specs.declared.ending.Ending.TheVariants.{Ended}
use Rattle.fab_language.specs.Heaps.{Heap}
use Rattle.fab_language.specs.Meaning.{State, failed, stopped, missing, Run, with_field, next_name, default, locals_at_start, requested, meant_by, meaning, state_at_start}
use Rattle.fab_language.specs.Evaluation.{tid_of, meant, in_turn}
use Rattle.fab_laws.specs.Kinds.{Kind, Claim, parameter_kinds}
use Rattle.fab_laws.specs.Closed.{HasOne, IsThere, AreThere, IsClosed, IsFound, IsClosedBehind}
use Rattle.fab_laws.proofs.Courses.{course_keeps}
use Rattle.fab_laws.proofs.Maps.{put_keeps}
use Rattle.fab_laws.proofs.Values.{at_place, all_set, all_at_start, number_leads_nowhere}
use Rattle.fab_laws.proofs.Walk as w
use Rattle.fab_laws.proofs.Walk.{Result, on, off, Finds, made_one, touched_one, Replaces, again, fresh}
use Rattle.fab_base.specs.Values.{referred}
use Rattle.fab_base.proofs.Lists.{all_along}

-- each object of the one map has its name in the other
pub record Grown (m n : FlatMap) : Type 0 where
  pub still : (o : Oid) (x : Object) → get m o ≡ Some x → HasOne n o

there_still : (m n : FlatMap) (v : Value) → Grown m n → IsThere m v → IsThere n v
there_still m n v g = by (referred v)
  where
    by : (o : Option Oid) → IfSome o (HasOne m) → IfSome o (HasOne n)
    by None h = tt
    by (Some o) h = g.still o h.0 h.1

all_still : (m n : FlatMap) (vs : List Value) → Grown m n → AreThere m vs → AreThere n vs
all_still m n vs g h = all_along (IsThere m) (IsThere n) (λ v p. there_still m n v g p) vs h

same_map : (m : FlatMap) → Grown m m
same_map m = record { still = λ o x e. (x, e) }

grown_on : (m n k : FlatMap) → Grown m n → Grown n k → Grown m k
grown_on m n k g h = record { still = λ o x e. let t = g.still o x e in h.still o t.0 t.1 }

pub put_grown : (o : Oid) (y : Object) (m : FlatMap) → Grown m (put o y m)
put_grown o y m = record { still = λ p x e. at p x e (is_same o p) refl }
  where
    at : (p : Oid) (x : Object) → get m p ≡ Some x → (b : Bool) → is_same o p ≡ b → HasOne (put o y m) p
    at p x e true i = (y, ap (get (put o y m)) (sym (one_name o p i)) ∙ get-put_same o y m)
    at p x e false i = (x, get-put_other o p y m i ∙ e)

put_closed : (o : Oid) (y : Object) (m : FlatMap) → IsClosed m → AreThere m y.fields → IsClosed (put o y m)
put_closed o y m c h =
    let still : (x : Object) → AreThere m x.fields → AreThere (put o y m) x.fields = λ x. all_still m (put o y m) x.fields (put_grown o y m) in
    put_keeps (λ p x. AreThere (put o y m) x.fields) o y m (λ p x e. still x (c p x e)) (still y h)

-- what holds along a run
pub record Good (ls : List Kind) (t : State) : Type 0 where
  pub locals : AreThere t.heap.rows t.locals
  pub closed : IsClosed t.heap.rows

abbrev Has : State → Kind → Value → Type 0
Has t k v = IsThere t.heap.rows v

pub record Then (t u : State) : Type 0 where
  pub grown : Grown t.heap.rows u.heap.rows

abbrev Lacks : ℕ → Oid → Type 0
Lacks site o = ⊥

abbrev Meets : Claim → Type 0
Meets c = Unit {0}

of_default : (m : FlatMap) (s : Sort) → IsThere m (default s)
of_default m (sorts.Number widths.Int) = tt
of_default m (sorts.Class c) = tt

there_is : (t : State) (o : Oid) → HasOne t.heap.rows o → get t.heap.rows o ≡ None → ⊥
there_is t o h e = let no : None ≡ Some h.0 = sym e ∙ h.1 in cc

module _ (program : Resolved) (tid : Tid) where
  abbrev Next : List Kind → State → State → Type 0
  Next = w.Next program tid Good Has Then Lacks Meets

  -- nothing of the map and the locals changed
  quiet : (ls ms : List Kind) (t u : State) → Good ls t → u.heap ≡ t.heap → AreThere t.heap.rows u.locals → Next ms t u
  quiet ls ms t u h e l = record {
    holds = record { locals = subst (λ g. AreThere g.rows u.locals) (sym e) l; closed = subst (λ g. IsClosed g.rows) (sym e) h.closed };
    later = record { grown = subst (λ g. Grown t.heap.rows g.rows) (sym e) (same_map t.heap.rows) };
  }

  -- an object was put into the map
  putting : (ls : List Kind) (t u : State) (o : Oid) (y : Object) → Good ls t → AreThere t.heap.rows y.fields → u.heap.rows ≡ put o y t.heap.rows → u.locals ≡ t.locals → Next ls t u
  putting ls t u o y h f e l = record {
    holds = record {
      locals = subst (λ m. AreThere m u.locals) (sym e) (subst (AreThere (put o y t.heap.rows)) (sym l) (all_still t.heap.rows (put o y t.heap.rows) t.locals (put_grown o y t.heap.rows) h.locals));
      closed = subst IsClosed (sym e) (put_closed o y t.heap.rows h.closed f);
    };
    later = record { grown = subst (Grown t.heap.rows) (sym e) (put_grown o y t.heap.rows) };
  }

  found_there : (ls : List Kind) (t : State) (site : ℕ) (o : Oid) (x : Object) (ts : List (ℕ × Oid)) → Good ls t → w.Finds program tid Good Has Then Lacks Meets t site o x ts → AreThere t.heap.rows x.fields
  found_there ls t site o x _ h (made_one g i) = h.closed o x g
  found_there ls t site o x _ h (touched_one g i j) = h.closed o x g

  written_there : (ls : List Kind) (t : State) (o : Oid) (y : Object) (ts : List (ℕ × Oid)) (g : Heap) → Good ls t → AreThere t.heap.rows y.fields → w.Replaces program tid Good Has Then Lacks Meets t o y g → Next ls t (record t { touches = ts; heap = g })
  written_there ls t o y ts g h f (again c) = putting ls t (record t { touches = ts; heap = g }) o y h f refl refl
  written_there ls t o y ts g h f (fresh c s) = putting ls t (record t { touches = ts; heap = g }) o y h f refl refl

  kept : w.IsKept program tid Good Has Then Lacks Meets
  kept = record {
    same = λ t. record { grown = same_map t.heap.rows };
    then_on = λ t u v g h. record { grown = grown_on t.heap.rows u.heap.rows v.heap.rows g.grown h.grown };
    of_number = λ t w v e. number_leads_nowhere _ w v e;
    operated = λ t k l a b v i h g. number_leads_nowhere _ i.width v i.is_one;
    of_null = λ t. tt;
    still = λ t u k v g h. there_still t.heap.rows u.heap.rows v g.grown h;
    fitted = λ t taker k v m h. h;
    at_local = λ ls t x h. at_place (IsThere t.heap.rows) t.locals x Null tt h.locals;
    charged = λ ls t h. quiet ls ls t (record t { fuel = t.fuel - 1 }) h refl h.locals;
    assigned = λ ls t x v h p. quiet ls ls t (record t { locals = slice_set t.locals x v }) h refl (all_set (IsThere t.heap.rows) t.locals x v p h.locals);
    lacked = λ ls t k site o h p e. there_is t o p e;
    touched = λ ls t k site o x ts h p e. quiet ls ls t (record t { touches = ts }) h refl h.locals;
    at_field = λ ls t k site field o x ts h p e. at_place (IsThere t.heap.rows) x.fields field Null tt (found_there ls t site o x ts h e);
    wrote = λ ls t k l site field o v x ts g h p m q e r. written_there ls t o (with_field field v x) ts g h (all_set (IsThere t.heap.rows) x.fields field v q (found_there ls t site o x ts h e)) r;
    created = λ ls t store class site vs h m g r. putting ls t (w.behind_new program tid Good Has Then Lacks Meets t store class site vs) (next_name tid store class site t.heap) (record { class = class; fields = vs }) h (w.each_is program tid Good Has Then Lacks Meets t (IsThere t.heap.rows) (λ k v p. p) _ vs g.each) refl refl;
    of_name = λ ls t store class site vs h m r. (record { class = class; fields = vs }, get-put_same (next_name tid store class site t.heap) (record { class = class; fields = vs }) t.heap.rows);
    downed = λ ls t k site v h p. quiet ls ls t (record t { downs = t.downs ++ (site, v) ∷ [] }) h refl h.locals;
    put_back = λ ls t u h g k. quiet ls ls t (record u { locals = t.locals; heap = t.heap }) h refl h.locals;
    entered = λ ls t m args h g. quiet ls _ t (record t { locals = locals_at_start m args }) h refl (all_at_start (IsThere t.heap.rows) (of_default t.heap.rows) m args (w.each_is program tid Good Has Then Lacks Meets t (IsThere t.heap.rows) (λ k v p. p) _ args g.each));
    left = λ ls ms t u h g k. record { holds = record { locals = all_still t.heap.rows u.heap.rows t.locals g.grown h.locals; closed = k.closed }; later = record { grown = g.grown } };
    moved = λ t k v vs h. h;
  }

  module _ (known : FlatMap) (request : Request) (fuel : ℕ) (closed : IsClosed known) (args : AreThere known request.args) where
    abbrev start : State
    start = state_at_start known fuel

    abbrev Out : Run (Option Value) → Type 0
    Out = w.Result program tid Good Has Then Lacks Meets [] start (w.Answers program tid Good Has Then Lacks Meets kept (slice_get program.methods request.method))

    out : Out (requested program tid request start)
    out = w.all_calls program tid Good Has Then Lacks Meets kept (λ i m e. w.unasked program m) 64 [] start request.method request.args (record { locals = tt; closed = closed })
        (record { count = tt; each = w.each_has program tid Good Has Then Lacks Meets start (IsThere known) (λ k v p. p) (parameter_kinds (slice_get program.methods request.method)) request.args args })

    found_by : (r : Run (Option Value)) → Out r → IsFound (meant_by r).ending
    found_by _ (on a u n p) = tt
    found_by _ (off failed u n p) = tt
    found_by _ (off (stopped stop) u n p) = tt
    found_by _ (off (missing site o) u n p) = absurd p

    closed_by : (r : Run (Option Value)) → Out r → IsClosed (meant_by r).map
    closed_by _ (on a u n p) = n.holds.closed
    closed_by _ (off e u n p) = n.holds.closed

    grown_by : (r : Run (Option Value)) → Out r → Grown known (meant_by r).map
    grown_by _ (on a u n p) = n.later.grown
    grown_by _ (off e u n p) = n.later.grown

    result_by : (r : Run (Option Value)) → Out r → (v : Value) → (meant_by r).ending ≡ Ended (Some v) → IsThere (meant_by r).map v
    result_by _ (on a u n p) v e = let q : a ≡ Some v = cc in subst (λ b. IsThere u.heap.rows (unwrap_or b Null)) q p
    result_by _ (off failed u n p) v e = cc
    result_by _ (off (stopped stop) u n p) v e = cc
    result_by _ (off (missing site o) u n p) v e = cc

    pub meant_closed : IsClosedBehind known (meaning program known request tid fuel)
    meant_closed = record {
      found = found_by (requested program tid request start) out;
      closed = closed_by (requested program tid request start) out;
      still = (grown_by (requested program tid request start) out).still;
      result = result_by (requested program tid request start) out;
    }

-- ---- requests one after the other

module _ (program : Resolved) where
  pub course_closed : (known : FlatMap) (requests : List Request) → IsClosed known → AllByRecursion (λ r. AreThere known r.args) requests → AllByRecursion IsFound (in_turn program known requests).endings × IsClosed (in_turn program known requests).map
  course_closed known requests h a =
      let t = course_keeps program (λ m. IsClosed m × Grown known m) (λ r. AreThere known r.args) IsFound one known requests (h, same_map known) a in
      (t.0, t.1.0)
    where
      one : (m : FlatMap) (request : Request) → IsClosed m × Grown known m → AreThere known request.args → IsFound (meant program m request).ending × (IsClosed (meant program m request).map × Grown known (meant program m request).map)
      one m request k args =
          let c = meant_closed program (tid_of request) m request 1000000 k.0 (all_still known m request.args k.1 args) in
          (c.found, (c.closed, grown_on known m (meant program m request).map k.1 (record { still = c.still })))
