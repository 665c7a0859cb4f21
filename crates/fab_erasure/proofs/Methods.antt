-- Methods and calls: a call of a method whose begin label is seen is followed, and one of another hides.
use Rattle.std.proofs.Common.{◌≡◌, ℕ, zero, suc, List, [], ◌∷◌, ◌++◌, Option, Some, None, Bool, true, false, ◌&&◌, if◌then◌else◌, refl, sym, ap, ◌∙◌, subst, true≢false}
use Rattle.std.specs.Prelude.{slice_get}
use Rattle.std.specs.List.{list_all, flat_map, AllByRecursion}
use Rattle.std.proofs.lemmas.Bool.{and_parts}
use Rattle.fab_base.specs.declared.object.Stop.TheVariants.{Depth}
use Rattle.fab_base.specs.declared.object.Value.{Value}
use Rattle.fab_base.specs.declared.object.Value.TheVariants.{Int, Null, Ref}
use Rattle.fab_tree.specs.declared.resolved.Local.{Local}
use Rattle.fab_tree.specs.declared.resolved.Expression.{Expression}
use Rattle.fab_tree.specs.declared.resolved.Return.{Return}
use Rattle.fab_tree.specs.declared.resolved.Returns.{Returns}
use Rattle.fab_tree.specs.declared.resolved.Method.{Method}
use Rattle.fab_labelling.specs.Obligations as ob
use Rattle.fab_labelling.specs.Obligations.{Owed, all_flow, label_of_returns, parameter_labels, failure_of, authority_of, method_owes}
use Rattle.fab_labelling.specs.declared.rule.LabelRule.TheVariants.{Write}
use Rattle.fab_labelling.specs.Sites.{all_under, sites_in, method_sites, return_sites, block_sites}
use Rattle.fab_language.specs.Meaning.{State, stopped, Run, goes, ends, M, gives, value, block, returned, body_of, back_with, entered, called, locals_at_start}
use Rattle.fab_laws.specs.Runs.{state_behind}
use Rattle.fab_laws.specs.Kinds.{Kind, nothing, takes, parameter_kinds, returns_kind, returned_kind, block_claims, method_claims}
use Rattle.fab_laws.specs.Shapes.{suits, AllSuit}
use Rattle.fab_laws.proofs.Walk as w
use Rattle.fab_laws.proofs.Shapes.{Shaped, Has, Then, Lacks, Meets, kept, taken, suit_start}
use Rattle.fab_laws.proofs.Grows.{Grows, grows_gives, returned_grows, calls_grow}
use Rattle.fab_erasure.specs.Erased as erase
use Rattle.fab_erasure.specs.Erased.{shown_if, returns_blank}
use Rattle.fab_erasure.specs.Agreement.{downgrades_in}
use Rattle.fab_erasure.proofs.Views.{split_left, split_right, both_seen}
use Rattle.fab_erasure.proofs.Near as n
use Rattle.fab_erasure.proofs.Near.{Sight, Any, Whatever, kinds_of, Match, both_go, cut, Hidden, went, halted}
use Rattle.fab_erasure.proofs.Expressions as x
use Rattle.fab_erasure.proofs.Expressions.{IsSeenFailure, MayFail, IsLabelled, Kept, flow_seen}
use Rattle.fab_erasure.proofs.Arguments as args
use Rattle.fab_erasure.proofs.Grows as grow
use Rattle.fab_erasure.proofs.Arguments.{ArgsSame}
use Rattle.fab_erasure.proofs.Rights.{Calls, ResultSame, ResultHidden}
use Rattle.fab_erasure.proofs.Statements as blocks

module _ (sight : Sight) (view : IsLabelled sight.sees sight.shows sight.program) where
  abbrev Near : List Local → State → State → Type 0
  Near = n.Near sight

  abbrev Beside : {A B : Type 0} → List Local → (A → B → Type 0) → Run A → Run B → Type 0
  Beside {A} {B} = Match sight {A = A} {B = B}

  abbrev Hides : {A : Type 0} → List Local → (A → Type 0) → Type 0 → State → Run A → Type 0
  Hides {A} = Hidden sight {A = A}

  abbrev Good : State → Type 0
  Good = n.Good sight

  abbrev Call : Type 0
  Call = ℕ → List Value → M (Option Value)

  abbrev IsTyped : Call → Type 0
  IsTyped call = w.Calls sight.program sight.tid (Shaped sight.program sight.tid) (Has sight.program sight.tid) (Then sight.program sight.tid)
      (Lacks sight.program sight.tid) (Meets sight.program sight.tid) (kept sight.program sight.tid) call

  abbrev Followed : Call → Call → Type 0
  Followed = Calls sight view

  abbrev Owes : List Owed → Type 0
  Owes = Kept sight.sees sight.shows sight.program

  -- what a method owes
  pub record MethodOwing (m : Method) : Type 0 where
    pub kept_all : Owes (method_owes sight.program.classes sight.program.methods m)
    pub placed : AllByRecursion (λ (y : ℕ × List ℕ). sight.site_seen y.0 ≡ list_all sight.sees y.1) (method_sites sight.program.classes m)
    pub turned : AllByRecursion (n.Turns sight) (flat_map downgrades_in m.body)
    pub met : AllByRecursion (Meets sight.program sight.tid) (method_claims sight.program.classes sight.program.methods m)

  module _ (call blank : Call) (calls : Followed call blank) (typed : IsTyped call) (m : Method) (owing : MethodOwing m) where
    abbrev ls : List Local
    ls = m.locals

    abbrev pc : List ℕ
    pc = m.begin.number ∷ []

    abbrev F : Option ℕ
    F = failure_of m

    abbrev part : Expression → erase.Part
    part = erase.part sight.sees sight.shows sight.program.classes ls

    abbrev owed_by : Expression → ob.Part
    owed_by = ob.part sight.program.classes ls

    known : (e : Expression) → x.Follows sight view ls (value e) (part e) (owed_by e) (sites_in e)
    known = x.expressions sight view ls

    abbrev block_owes : List Owed
    block_owes = ob.block_owes sight.program.classes sight.program.methods ls (authority_of m) m.body pc F

    abbrev return_owes : Option Returns → Option Return → List Owed
    return_owes returns result = ob.return_owes sight.program.classes sight.program.methods ls (authority_of m) returns result pc F

    abbrev run_body : M (Unit {0})
    run_body = block sight.tid call m.body

    abbrev blank_body : M (Unit {0})
    blank_body = erase.block sight.sees sight.shows sight.program.classes ls sight.tid blank m.body

    abbrev owes_at : List ℕ → Option ℕ → List Owed
    owes_at = ob.block_owes sight.program.classes sight.program.methods ls (authority_of m) m.body

    stands : blocks.Stands sight view ls (authority_of m) call blank calls typed run_body blank_body owes_at (block_sites sight.program.classes ls m.body)
        (flat_map downgrades_in m.body) (block_claims sight.program.classes sight.program.methods (kinds_of ls) m.body)
    stands = blocks.blocks sight view ls (authority_of m) call blank calls typed m.body

    block_owing : blocks.Owing sight view ls (authority_of m) call blank calls typed pc F owes_at (block_sites sight.program.classes ls m.body)
        (flat_map downgrades_in m.body) (block_claims sight.program.classes sight.program.methods (kinds_of ls) m.body)
    block_owing = record {
      kept = split_left _ block_owes (return_owes m.returns m.result) owing.kept_all;
      placed = split_left _ (block_sites sight.program.classes ls m.body pc) (all_under pc (return_sites m.result)) owing.placed;
      turned = owing.turned;
      met = owing.met.1;
    }

    -- ---- what is returned

    abbrev kind : Expression → Kind
    kind = args.kind sight.program sight.tid ls

    abbrev blank_returned : Option Return → M (Option Value)
    blank_returned result = erase.returned sight.sees sight.shows sight.program.classes ls m.returns result

    null_value : (v : Value) → suits nothing v ≡ true → v ≡ Null
    null_value (Int k) h = absurd (true≢false (sym h))
    null_value Null h = refl
    null_value (Ref o) h = absurd (true≢false (sym h))

    -- where nothing is returned, a value is null
    null_kind : (k : Kind) (v : Value) → takes nothing k ≡ true → suits k v ≡ true → v ≡ Null
    null_kind k v h p = null_value v (taken nothing k v h p)

    return_flow : (r : Return) (returns : Returns) → Owes (return_owes (Some returns) (Some r)) → sight.sees returns.label.number ≡ true
        → (list_all sight.sees pc ≡ true) × (list_all sight.sees (owed_by r.value).labels ≡ true)
    return_flow r returns h e =
        let flow = all_flow Write r.at (pc ++ (owed_by r.value).labels) returns.label.number in
        both_seen sight.sees pc (owed_by r.value).labels (flow_seen sight.sees sight.shows sight.program Write r.at (pc ++ (owed_by r.value).labels)
        returns.label.number (split_left _ flow [] (split_right _ ((owed_by r.value).owes pc F) (flow ++ []) h)) e)

    shown_result : (r : Return) (returns : Option Returns) → Owes (return_owes returns (Some r)) → takes (returns_kind returns) (kind r.value) ≡ true → (v z : Value)
        → suits (kind r.value) v ≡ true → ((part r.value).seen ≡ true → v ≡ z) → ((part r.value).seen ≡ false → z ≡ Null)
        → shown_if (erase.sees_result sight.sees sight.shows returns) z ≡ shown_if (erase.sees_result sight.sees sight.shows returns) v
    shown_result r None h k v z fit same gone = elim (part r.value).seen as (λ b. (part r.value).seen ≡ b → z ≡ v) [
      | true ↦ λ e. sym (same e)
      | false ↦ λ e. gone e ∙ sym (null_kind (kind r.value) v k fit)
    ] refl
    shown_result r (Some y) h k v z fit same gone = elim (sight.sees y.label.number) as (λ b. sight.sees y.label.number ≡ b → shown_if b z ≡ shown_if b v) [
      | true ↦ λ e. sym (same ((known r.value).seen_is ∙ (return_flow r y h e).1))
      | false ↦ λ e. refl
    ] refl

    return_seen : (result : Option Return) → Owes (return_owes m.returns result) → AllByRecursion (λ k. sight.site_seen k ≡ true) (return_sites result) → takes
        (returns_kind m.returns) (returned_kind sight.program.classes sight.program.methods (kinds_of ls) result) ≡ true → IsSeenFailure sight.sees F
        → (s t : State) → Near ls s t → Good (state_behind (returned result s)) → Beside ls (ResultSame sight view m) (returned result s) (blank_returned result t)
    return_seen None h at k f s t near good = both_go None None s t near refl
    return_seen (Some r) h at k f s t near good =
        n.follow sight ls (λ v z. (part r.value).seen ≡ true → v ≡ z) (λ v. suits (kind r.value) v ≡ true) (ResultSame sight view m) (value r.value s)
        ((part r.value).run t) (λ v. gives (Some v)) (λ v. gives (Some (shown_if (erase.sees_result sight.sees sight.shows m.returns) v)))
        ((known r.value).seen pc F (split_left _ ((owed_by r.value).owes pc F) _ h) f at s t near) good
        (args.out_value sight.program sight.tid ls r.value s near.shaped) (λ v. grows_gives (Some v))
        (λ v. grows_gives (Some (shown_if (erase.sees_result sight.sees sight.shows m.returns) v)))
        (λ v z u u2 q near2 same fit gd. both_go (Some v) (Some (shown_if (erase.sees_result sight.sees sight.shows m.returns) z)) u u2 near2
        (ap (λ y. Some y) (shown_result r m.returns h k v z fit same (λ e. subst (λ q2. n.Out sight (λ y. y ≡ Null) q2) q ((known r.value).blank e t)))))

    hidden_result : (r : Return) (returns : Option Returns) → Owes (return_owes returns (Some r)) → takes (returns_kind returns) (kind r.value) ≡ true → list_all
        sight.sees pc ≡ false → (v : Value) → suits (kind r.value) v ≡ true → list_all sight.sees (label_of_returns returns) ≡ true → v ≡ Null
    hidden_result r None h k hide v fit e = null_kind (kind r.value) v k fit
    hidden_result r (Some y) h k hide v fit e = absurd (true≢false (sym (return_flow r y h (and_parts (sight.sees y.label.number) true e).0).0 ∙ hide))

    return_hidden : (result : Option Return) → Owes (return_owes m.returns result) → AllByRecursion (λ k. sight.site_seen k ≡ false) (return_sites result) → takes
        (returns_kind m.returns) (returned_kind sight.program.classes sight.program.methods (kinds_of ls) result) ≡ true → list_all sight.sees pc ≡ false
        → (s : State) → Shaped sight.program sight.tid (kinds_of ls) s → Hides ls (ResultHidden sight view m) (MayFail sight.sees F) s (returned result s)
    return_hidden None h at k hide s shaped = went None s (n.quiet_here sight ls s shaped) (λ e. refl)
    return_hidden (Some r) h at k hide s shaped =
        n.hidden_then sight ls Whatever (λ v. suits (kind r.value) v ≡ true) (ResultHidden sight view m) (MayFail sight.sees F) s (value r.value s) (λ v. gives (Some v))
        ((known r.value).hidden pc F (split_left _ ((owed_by r.value).owes pc F) _ h) hide at s shaped) (args.out_value sight.program sight.tid ls r.value s shaped)
        (λ v u q y fit. went (Some v) u (n.quiet_here sight ls u q.shaped) (hidden_result r m.returns h k hide v fit))

    -- ---- bodies

    placed_at : (b : Bool) (ps sites : List ℕ) → list_all sight.sees ps ≡ b → AllByRecursion (λ (y : ℕ × List ℕ). sight.site_seen y.0 ≡ list_all sight.sees y.1)
        (all_under ps sites) → AllByRecursion (λ k. sight.site_seen k ≡ b) sites
    placed_at b ps [] e h = tt
    placed_at b ps (k ∷ ks) e h = (h.0 ∙ e, placed_at b ps ks e h.1)

    return_kept : Owes (return_owes m.returns m.result)
    return_kept = split_right _ block_owes (return_owes m.returns m.result) owing.kept_all

    return_placed : AllByRecursion (λ (y : ℕ × List ℕ). sight.site_seen y.0 ≡ list_all sight.sees y.1) (all_under pc (return_sites m.result))
    return_placed = split_right _ (block_sites sight.program.classes ls m.body pc) (all_under pc (return_sites m.result)) owing.placed

    pc_is : (b : Bool) → sight.sees m.begin.number ≡ b → list_all sight.sees pc ≡ b
    pc_is b e = ap (λ c. c && true) e ∙ last b
      where
        last : (c : Bool) → (c && true) ≡ c
        last true = refl
        last false = refl

    failure_seen : sight.sees m.begin.number ≡ true → IsSeenFailure sight.sees F
    failure_seen e = by m.fails
      where
        by : (b : Bool) → IsSeenFailure sight.sees (if b then Some m.begin.number else None)
        by true = e
        by false = tt

    may_fail : MayFail sight.sees F → m.fails ≡ true
    may_fail = by m.fails
      where
        by : (b : Bool) → MayFail sight.sees (if b then Some m.begin.number else None) → b ≡ true
        by true h = refl
        by false h = absurd h

    abbrev blank_of_body : M (Option Value)
    blank_of_body = erase.body_of sight.sees sight.shows sight.program.classes sight.tid blank m

    body_seen : sight.sees m.begin.number ≡ true → (s t : State) → Near ls s t → Good (state_behind (body_of sight.tid call m s)) → Beside ls (ResultSame sight view m)
        (body_of sight.tid call m s) (blank_of_body t)
    body_seen e s t near good =
        n.follow sight ls Any Whatever (ResultSame sight view m) (run_body s) (blank_body t) (λ _. returned m.result) (λ _. blank_returned m.result)
        (stands.seen pc F block_owing (failure_seen e) (pc_is true e) s t near) good (n.out_any sight (run_body s)) (λ _. returned_grows m.result)
        (λ _. grow.returned_grows sight.sees sight.shows sight.program.classes ls m.returns m.result)
        (λ a b u v q near2 r y gd. return_seen m.result return_kept (placed_at true pc (return_sites m.result) (pc_is true e) return_placed) owing.met.0
        (failure_seen e) u v near2 gd)

    body_hidden : sight.sees m.begin.number ≡ false → (s : State) → Shaped sight.program sight.tid (kinds_of ls) s → Hides ls (ResultHidden sight view m)
        (m.fails ≡ true) s (body_of sight.tid call m s)
    body_hidden e s shaped =
        n.hidden_more sight ls (ResultHidden sight view m) (ResultHidden sight view m) (MayFail sight.sees F) (m.fails ≡ true) s (body_of sight.tid call m s) (λ a p. p)
        may_fail
        (n.hidden_then sight ls Whatever Whatever (ResultHidden sight view m) (MayFail sight.sees F) s (run_body s) (λ _. returned m.result)
        (stands.hidden pc F block_owing (pc_is false e) s shaped) (n.out_any sight (run_body s))
        (λ a u q p y. return_hidden m.result return_kept (placed_at false pc (return_sites m.result) (pc_is false e) return_placed) owing.met.0 (pc_is false e) u
        q.shaped))

    -- ---- from a caller

    good_back : (vs : List Value) (r : Run (Option Value)) → Good (state_behind (back_with vs r)) → Good (state_behind r)
    good_back vs (goes a u) g = g
    good_back vs (ends e u) g = g

    abbrev inner : List Value → State → State
    inner vs s = record s { locals = locals_at_start m vs }

    abbrev blank_inner : List Value → State → State
    blank_inner us t = record t { locals = erase.locals_at_start sight.sees sight.shows m us }

    start_shaped : (outer : List Local) (vs : List Value) (s : State) → Shaped sight.program sight.tid (kinds_of outer) s → AllSuit (parameter_kinds (Some m)) vs
        → Shaped sight.program sight.tid (kinds_of ls) (inner vs s)
    start_shaped outer vs s h fit = record { locals = suit_start m.parameters m.locals vs fit; rows = h.rows }

    pub enter_seen : (outer : List Local) → sight.sees m.begin.number ≡ true → (vs us : List Value) (s t : State) → Near outer s t → AllSuit (parameter_kinds (Some m))
        vs → ArgsSame sight.sees (parameter_labels m) vs us → Good (state_behind (entered sight.tid call (Some m) vs s))
        → Beside outer (ResultSame sight view m) (entered sight.tid call (Some m) vs s)
        (erase.entered sight.sees sight.shows sight.program.classes sight.tid blank (Some m) us t)
    enter_seen outer e vs us s t near fit same good =
        n.follow_back sight outer ls (ResultSame sight view m) s t (body_of sight.tid call m (inner vs s)) (blank_of_body (blank_inner us t)) near
        (body_seen e (inner vs s) (blank_inner us t) (record {
          heap = near.heap;
          trace = record { touches = near.trace.touches; downs = near.trace.downs; given = near.trace.given; fuel = near.trace.fuel; few = near.trace.few };
          locals = args.start_same sight view ls m.locals m.parameters vs us fit same;
          shaped = start_shaped outer vs s near.shaped fit;
        }) (good_back s.locals (body_of sight.tid call m (inner vs s)) good))

    pub enter_hidden : (outer : List Local) → sight.sees m.begin.number ≡ false → (vs : List Value) (s : State) → Shaped sight.program sight.tid (kinds_of outer) s
        → AllSuit (parameter_kinds (Some m)) vs → Hides outer (ResultHidden sight view m) (m.fails ≡ true) s (entered sight.tid call (Some m) vs s)
    enter_hidden outer e vs s h fit =
        let q = n.trace_kept sight s in
        n.hidden_back sight outer ls (ResultHidden sight view m) (m.fails ≡ true) s (inner vs s) (body_of sight.tid call m (inner vs s)) h refl
        (record { touches = q.touches; downs = q.downs; fuel = q.fuel; few = q.few }) (body_hidden e (inner vs s) (start_shaped outer vs s h fit))

  -- ---- calls, at most so many deep

  module _ (owing : (i : ℕ) (m : Method) → slice_get sight.program.methods i ≡ Some m → MethodOwing m) where
    abbrev whole_call : ℕ → Call
    whole_call depth = called sight.program sight.tid depth

    abbrev blank_call : ℕ → Call
    blank_call depth = erase.called sight.sees sight.shows sight.program sight.tid depth

    typed_call : (depth : ℕ) → IsTyped (whole_call depth)
    typed_call depth = w.all_calls sight.program sight.tid (Shaped sight.program sight.tid) (Has sight.program sight.tid) (Then sight.program sight.tid)
        (Lacks sight.program sight.tid) (Meets sight.program sight.tid) (kept sight.program sight.tid) (λ i m e. (owing i m e).met) depth

    skipped : (m : Method) (k : M (Option Value)) (t : State) → sight.sees m.begin.number ≡ false → erase.unless_skipped sight.sees sight.shows (Some m) k t ≡ goes
        (returns_blank m.returns) t
    skipped m k t e = rw e refl

    not_skipped : (m : Method) (k : M (Option Value)) (t : State) → sight.sees m.begin.number ≡ true → erase.unless_skipped sight.sees sight.shows (Some m) k t ≡ k t
    not_skipped m k t e = rw e refl

    too_deep : (outer : List Local) (R : Option Value → Option Value → Type 0) (s t : State) (k : M (Option Value)) → Grows k → Near outer s t → Beside outer R
        (ends (stopped Depth) s) (k t)
    too_deep outer R s t k g near = cut Depth s (k t) (n.fronts_on sight s t (state_behind (k t)) (n.fronts_at sight s t near.trace) (g t))

    pub all_followed : (depth : ℕ) → Followed (whole_call depth) (blank_call depth)
    all_followed zero = record {
      grows = calls_grow sight.program sight.tid zero;
      grows_too = grow.calls_grow sight.sees sight.shows sight.program sight.tid zero;
      seen = λ outer i m e b vs us s t near fit same good. too_deep outer (ResultSame sight view m) s t (blank_call zero i us)
          (grow.calls_grow sight.sees sight.shows sight.program sight.tid zero i us) near;
      hidden = λ outer i m e b vs s h fit. halted Depth s (n.trace_kept sight s);
      skipped = λ i m e b us t. subst (λ z. erase.unless_skipped sight.sees sight.shows z (ends (stopped Depth)) t ≡ goes (returns_blank m.returns) t) (sym e)
          (skipped m (ends (stopped Depth)) t b);
      none_seen = λ outer i e vs us s t near. too_deep outer (λ a b. (a ≡ None) × (b ≡ None)) s t (blank_call zero i us)
          (grow.calls_grow sight.sees sight.shows sight.program sight.tid zero i us) near;
      none_hidden = λ outer i e vs s h. halted Depth s (n.trace_kept sight s);
    }
    all_followed (suc depth) =
        let calls = all_followed depth in
        let typed = typed_call depth in
        record {
          grows = calls_grow sight.program sight.tid (suc depth);
          grows_too = grow.calls_grow sight.sees sight.shows sight.program sight.tid (suc depth);
          seen = λ outer i m e b vs us s t near fit same good.
              subst (λ z. Good (state_behind (entered sight.tid (whole_call depth) z vs s)) → Beside outer (ResultSame sight view m)
              (entered sight.tid (whole_call depth) z vs s) (erase.unless_skipped sight.sees sight.shows z
              (erase.entered sight.sees sight.shows sight.program.classes sight.tid (blank_call depth) z us) t)) (sym e)
              (λ gd. subst (λ q. Beside outer (ResultSame sight view m) (entered sight.tid (whole_call depth) (Some m) vs s) q)
              (sym (not_skipped m (erase.entered sight.sees sight.shows sight.program.classes sight.tid (blank_call depth) (Some m) us) t b))
              (enter_seen (whole_call depth) (blank_call depth) calls typed m (owing i m e) outer b vs us s t near fit same gd)) good;
          hidden = λ outer i m e b vs s h fit. subst (λ z. Hides outer (ResultHidden sight view m) (m.fails ≡ true) s (entered sight.tid (whole_call depth) z vs s))
              (sym e) (enter_hidden (whole_call depth) (blank_call depth) calls typed m (owing i m e) outer b vs s h fit);
          skipped = λ i m e b us t. subst (λ z. erase.unless_skipped sight.sees sight.shows z
              (erase.entered sight.sees sight.shows sight.program.classes sight.tid (blank_call depth) z us) t ≡ goes (returns_blank m.returns) t) (sym e)
              (skipped m (erase.entered sight.sees sight.shows sight.program.classes sight.tid (blank_call depth) (Some m) us) t b);
          none_seen = λ outer i e vs us s t near.
              subst (λ z. Beside outer (λ a b. (a ≡ None) × (b ≡ None)) (entered sight.tid (whole_call depth) z vs s)
              (erase.unless_skipped sight.sees sight.shows z (erase.entered sight.sees sight.shows sight.program.classes sight.tid (blank_call depth) z us) t))
              (sym e) (both_go None None s t near (refl, refl));
          none_hidden = λ outer i e vs s h. subst (λ z. Hides outer (λ a. a ≡ None) ⊥ s (entered sight.tid (whole_call depth) z vs s)) (sym e)
              (went None s (n.quiet_here sight outer s h) refl);
        }
