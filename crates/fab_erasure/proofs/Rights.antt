-- Calls and what is assigned, at a place that is seen and at a hidden one.
use Rattle.std.proofs.Common.{◌≡◌, ℕ, List, [], ◌∷◌, ◌++◌, Option, Some, None, Bool, true, false, ◌&&◌, ◌||◌, if◌then◌else◌, map, refl, sym, ap, ◌∙◌, subst, true≢false}
use Rattle.std.specs.Prelude.{slice_get, unwrap_or}
use Rattle.std.specs.List.{list_all, flat_map, AllByRecursion}
use Rattle.std.proofs.lemmas.Bool.{and_parts}
use Rattle.fab_base.specs.declared.object.Oid.{Oid}
use Rattle.fab_base.specs.declared.object.Object.{Object}
use Rattle.fab_base.specs.declared.object.Value.{Value}
use Rattle.fab_base.specs.declared.object.Value.TheVariants.{Null, Ref}
use Rattle.fab_tree.specs.declared.statement.Downgrade.{Downgrade}
use Rattle.fab_tree.specs.declared.resolved.Use.{Use}
use Rattle.fab_tree.specs.declared.resolved.Class.{Class}
use Rattle.fab_tree.specs.declared.resolved.Local.{Local}
use Rattle.fab_tree.specs.declared.resolved.Method.{Method}
use Rattle.fab_tree.specs.declared.resolved.Returns.{Returns}
use Rattle.fab_tree.specs.declared.resolved.Expression.{Expression}
use Rattle.fab_tree.specs.declared.resolved.Right.{Right}
use Rattle.fab_tree.specs.declared.resolved.Right.TheVariants as rights
use Rattle.fab_labelling.specs.Obligations as ob
use Rattle.fab_labelling.specs.Obligations.{Owed, all_flow, all_fail, label_of_returns, parameter_labels, failing, for_each}
use Rattle.fab_labelling.specs.declared.rule.LabelRule.TheVariants.{Write, Begin, Access}
use Rattle.fab_labelling.specs.Sites.{sites_in, right_sites}
use Rattle.fab_language.specs.Meaning.{State, Run, goes, M, and_then, gives, ◌>>=◌, value, values, settled, make, next_name, create, noted_down, right}
use Rattle.fab_language.specs.Heaps.{created}
use Rattle.fab_laws.specs.Runs.{state_behind}
use Rattle.fab_laws.specs.Kinds.{Kind, parameter_kinds, class_kinds, all_given, right_claims}
use Rattle.fab_laws.specs.Shapes.{AllSuit}
use Rattle.fab_laws.proofs.Shapes.{Shaped, Meets}
use Rattle.fab_laws.proofs.Grows.{Grows, grows_gives, grows_bind, grows_create, grows_noted}
use Rattle.fab_erasure.specs.Erased as erase
use Rattle.fab_erasure.specs.Erased.{shown_if, taken, returns_blank}
use Rattle.fab_erasure.specs.Agreement.{Downgrading, downgrades_in_right, result_seen}
use Rattle.fab_erasure.proofs.Views.{split_left, split_right}
use Rattle.fab_erasure.proofs.Near as n
use Rattle.fab_erasure.proofs.Near.{Sight, Turns, Any, Whatever, Alike, kinds_of, Match, both_go, Hidden, went}
use Rattle.fab_erasure.proofs.Steps as steps
use Rattle.fab_erasure.proofs.Expressions as x
use Rattle.fab_erasure.proofs.Expressions.{IsSeenFailure, MayFail, IsLabelled, Kept, flow_seen, flow_hidden, fail_seen, fail_hidden}
use Rattle.fab_erasure.proofs.Arguments as args
use Rattle.fab_erasure.proofs.Grows as grow
use Rattle.fab_erasure.proofs.Arguments.{ArgsSame, all_same}

module _ (sight : Sight) (view : IsLabelled sight.sees sight.shows sight.program) where
  abbrev Near : List Local → State → State → Type 0
  Near = n.Near sight

  abbrev Beside : {A B : Type 0} → List Local → (A → B → Type 0) → Run A → Run B → Type 0
  Beside {A} {B} = Match sight {A = A} {B = B}

  abbrev Hides : {A : Type 0} → List Local → (A → Type 0) → Type 0 → State → Run A → Type 0
  Hides {A} = Hidden sight {A = A}

  abbrev Good : State → Type 0
  Good = n.Good sight

  abbrev Call : Type 0
  Call = ℕ → List Value → M (Option Value)

  -- the erased result is what is seen of the other
  abbrev pub ResultSame : Method → Option Value → Option Value → Type 0
  ResultSame m a b = b ≡ result_seen sight.sees sight.shows sight.program (Some m) a

  -- where the label of a hidden method's result is seen, it is null
  abbrev pub ResultHidden : Method → Option Value → Type 0
  ResultHidden m a = list_all sight.sees (label_of_returns m.returns) ≡ true → unwrap_or a Null ≡ Null

  pub record Calls (call blank : Call) : Type 0 where
    pub grows : (i : ℕ) (vs : List Value) → Grows (call i vs)
    pub grows_too : (i : ℕ) (vs : List Value) → Grows (blank i vs)
    pub seen : (ls : List Local) (i : ℕ) (m : Method) → slice_get sight.program.methods i ≡ Some m → sight.sees m.begin.number ≡ true → (vs us : List Value)
        (s t : State) → Near ls s t → AllSuit (parameter_kinds (Some m)) vs → ArgsSame sight.sees (parameter_labels m) vs us
        → Good (state_behind (call i vs s)) → Beside ls (ResultSame m) (call i vs s) (blank i us t)
    pub hidden : (ls : List Local) (i : ℕ) (m : Method) → slice_get sight.program.methods i ≡ Some m → sight.sees m.begin.number ≡ false → (vs : List Value) (s : State)
        → Shaped sight.program sight.tid (kinds_of ls) s → AllSuit (parameter_kinds (Some m)) vs
        → Hides ls (ResultHidden m) (m.fails ≡ true) s (call i vs s)
    pub skipped : (i : ℕ) (m : Method) → slice_get sight.program.methods i ≡ Some m → sight.sees m.begin.number ≡ false → (us : List Value) (t : State) → blank i us t
        ≡ goes (returns_blank m.returns) t
    pub none_seen : (ls : List Local) (i : ℕ) → slice_get sight.program.methods i ≡ None → (vs us : List Value) (s t : State) → Near ls s t → Beside ls
        (λ a b. (a ≡ None) × (b ≡ None)) (call i vs s) (blank i us t)
    pub none_hidden : (ls : List Local) (i : ℕ) → slice_get sight.program.methods i ≡ None → (vs : List Value) (s : State) → Shaped sight.program sight.tid
        (kinds_of ls) s → Hides ls (λ a. a ≡ None) ⊥ s (call i vs s)

  module _ (ls : List Local) (authority : List ℕ) (call blank : Call) (calls : Calls call blank) where
    abbrev kind : Expression → Kind
    kind = args.kind sight.program sight.tid ls

    abbrev part : Expression → erase.Part
    part = erase.part sight.sees sight.shows sight.program.classes ls

    abbrev owed_by : Expression → ob.Part
    owed_by = ob.part sight.program.classes ls

    abbrev blanks : List Expression → M (List Value)
    blanks = erase.values sight.sees sight.shows sight.program.classes ls

    known : (e : Expression) → x.Follows sight view ls (value e) (part e) (owed_by e) (sites_in e)
    known = x.expressions sight view ls

    abbrev Owes : List Owed → Type 0
    Owes = Kept sight.sees sight.shows sight.program

    abbrev At : Bool → List ℕ → Type 0
    At b sites = AllByRecursion (λ n. sight.site_seen n ≡ b) sites

    abbrev Fits : List Kind → List Expression → Type 0
    Fits takers es = AllByRecursion (Meets sight.program sight.tid) (all_given takers (map kind es))

    abbrev returned : Option Method → List ℕ
    returned = ob.returned sight.program.classes sight.program.methods ls authority

    -- ---- one call

    abbrev labels_for : Option Method → List ℕ
    labels_for None = []
    labels_for (Some m) = parameter_labels m

    result_same : (m : Method) (a b : Option Value) → ResultSame m a b → list_all sight.sees (label_of_returns m.returns) ≡ true → unwrap_or a Null ≡ unwrap_or b Null
    result_same m None b h e = ap (λ c. unwrap_or c Null) (sym h)
    result_same m (Some v) b h e = sym (ap (λ c. unwrap_or c Null) h ∙ by m.returns e)
      where
        by : (x : Option Returns) → list_all sight.sees (label_of_returns x) ≡ true → shown_if (erase.sees_result sight.sees sight.shows x) v ≡ v
        by None k = refl
        by (Some r) k = rw ((and_parts (sight.sees r.label.number) true k).0) refl

    unwrap_blank : (x : Option Returns) → unwrap_or (returns_blank x) Null ≡ Null
    unwrap_blank None = refl
    unwrap_blank (Some r) = refl

    failing_owed : (m : Method) (at : ℕ) (F : Option ℕ) → Owes (failing m at F) → m.fails ≡ true → Owes (all_fail at (m.begin.number ∷ []) F)
    failing_owed m at F h e = subst (λ b. Owes (if b then all_fail at (m.begin.number ∷ []) F else [])) e h

    module _ (pc : List ℕ) (F : Option ℕ) (i : Use) (es : List Expression) where
      abbrev calling : Option Method → List Owed
      calling = ob.calling sight.program.classes sight.program.methods ls authority pc F i es

      given_kept : (slot : Option Method) → Owes (calling slot) → Owes (ob.all_given sight.program.classes ls pc F es (labels_for slot))
      given_kept None c = c
      given_kept (Some m) c = split_right _ (all_flow Begin i.at pc m.begin.number ++ failing m i.at F)
          (ob.all_given sight.program.classes ls pc F es (parameter_labels m)) c

      failing_kept : (m : Method) → Owes (calling (Some m)) → Owes (failing m i.at F)
      failing_kept m c = split_right _ (all_flow Begin i.at pc m.begin.number) (failing m i.at F)
          (split_left _ (all_flow Begin i.at pc m.begin.number ++ failing m i.at F) (ob.all_given sight.program.classes ls pc F es (parameter_labels m)) c)

      one_seen : (slot : Option Method) → slice_get sight.program.methods i.number ≡ slot → Owes (calling slot) → IsSeenFailure sight.sees F → (vs us : List Value)
          (s t : State) → Near ls s t → AllSuit (parameter_kinds slot) vs → ArgsSame sight.sees (labels_for slot) vs us
          → Good (state_behind (call i.number vs s)) → Beside ls (λ a b. list_all sight.sees (returned slot) ≡ true → unwrap_or a Null ≡ unwrap_or b Null)
          (call i.number vs s) (blank i.number us t)
      one_seen None e c g vs us s t m fit same good =
          n.match_more sight ls (λ a b. (a ≡ None) × (b ≡ None)) (λ a b. list_all sight.sees (returned None) ≡ true → unwrap_or a Null ≡ unwrap_or b Null)
          (call i.number vs s) (blank i.number us t)
          (λ a b r k. ap (λ z. unwrap_or z Null) (r.0 ∙ sym r.1)) (calls.none_seen ls i.number e vs us s t m)
      one_seen (Some m) e c g vs us s t near fit same good = elim (sight.sees m.begin.number) as
          (λ b. sight.sees m.begin.number ≡ b → Beside ls (λ a b. list_all sight.sees (label_of_returns m.returns) ≡ true → unwrap_or a Null ≡ unwrap_or b Null)
          (call i.number vs s) (blank i.number us t)) [
            | true ↦ λ k. n.match_more sight ls (ResultSame m) (λ a b. list_all sight.sees (label_of_returns m.returns) ≡ true → unwrap_or a Null ≡ unwrap_or b Null)
                (call i.number vs s) (blank i.number us t) (result_same m) (calls.seen ls i.number m e k vs us s t near fit same good)
            | false ↦ λ k.
                subst (λ q. Beside ls (λ a b. list_all sight.sees (label_of_returns m.returns) ≡ true → unwrap_or a Null ≡ unwrap_or b Null) (call i.number vs s) q)
                (sym (calls.skipped i.number m e k us t))
                (n.hidden_beside sight ls (ResultHidden m) (λ a b. list_all sight.sees (label_of_returns m.returns) ≡ true → unwrap_or a Null ≡ unwrap_or b Null)
                (m.fails ≡ true) s t (call i.number vs s) (returns_blank m.returns)
                (λ f. absurd (true≢false (sym (and_parts (sight.sees m.begin.number) true
                (fail_seen sight.sees sight.shows sight.program i.at (m.begin.number ∷ []) F (failing_owed m i.at F (failing_kept m c) f) g)).0 ∙ k)))
                near (λ a r l. r l ∙ sym (unwrap_blank m.returns)) (calls.hidden ls i.number m e k vs s near.shaped fit))
          ] refl

      one_hidden : (slot : Option Method) → slice_get sight.program.methods i.number ≡ slot → Owes (calling slot) → list_all sight.sees pc ≡ false → (vs : List Value)
          (s : State) → Shaped sight.program sight.tid (kinds_of ls) s → AllSuit (parameter_kinds slot) vs → Hides ls Whatever (MayFail sight.sees F) s
          (call i.number vs s)
      one_hidden None e c h vs s shaped fit = n.hidden_more sight ls (λ a. a ≡ None) Whatever ⊥ (MayFail sight.sees F) s (call i.number vs s) (λ a p. tt)
          (λ no_way. absurd no_way) (calls.none_hidden ls i.number e vs s shaped)
      one_hidden (Some m) e c h vs s shaped fit =
          let k = flow_hidden sight.sees sight.shows sight.program Begin i.at pc m.begin.number
          (split_left _ (all_flow Begin i.at pc m.begin.number) (failing m i.at F)
          (split_left _ (all_flow Begin i.at pc m.begin.number ++ failing m i.at F) (ob.all_given sight.program.classes ls pc F es (parameter_labels m)) c)) h
          in
          n.hidden_more sight ls (ResultHidden m) Whatever (m.fails ≡ true) (MayFail sight.sees F) s (call i.number vs s) (λ a p. tt)
          (λ f. fail_hidden sight.sees sight.shows sight.program i.at (m.begin.number ∷ []) F (failing_owed m i.at F (failing_kept m c) f) (ap (λ b. b && true) k))
          (calls.hidden ls i.number m e k vs s shaped fit)

      abbrev slot_of : Option Method
      slot_of = slice_get sight.program.methods i.number

      abbrev Results : Option Value → Option Value → Type 0
      Results a b = list_all sight.sees (returned slot_of) ≡ true → unwrap_or a Null ≡ unwrap_or b Null

      -- a call with its arguments, and what is done with the result
      pub call_seen : {A B : Type 0} (Q : A → B → Type 0) (g : Option Value → M A) (h : Option Value → M B) → Owes (calling slot_of) → IsSeenFailure sight.sees F → At
          true (flat_map sites_in es) → Fits (parameter_kinds slot_of) es → ((a : Option Value) → Grows (g a)) → ((b : Option Value) → Grows (h b))
          → (s t : State) → Near ls s t → Good (state_behind ((values es >>= λ vs. call i.number vs >>= g) s))
          → ((a b : Option Value) (u v : State) → Near ls u v → Results a b → Good (state_behind (g a u)) → Beside ls Q (g a u) (h b v))
          → Beside ls Q ((values es >>= λ vs. call i.number vs >>= g) s) ((blanks es >>= λ us. blank i.number us >>= h) t)
      call_seen Q g h c f at fits grow grow_too s t m good k =
          n.follow sight ls (ArgsSame sight.sees (labels_for slot_of)) (args.Given sight.program sight.tid ls es) Q (values es s) (blanks es t)
          (λ vs. call i.number vs >>= g) (λ us. blank i.number us >>= h)
          (args.values_seen sight view ls pc F es (labels_for slot_of) (given_kept slot_of c) f at s t m) good (args.out_values sight.program sight.tid ls es s m.shaped)
          (λ vs. grows_bind (call i.number vs) g (calls.grows i.number vs) grow) (λ us. grows_bind (blank i.number us) h (calls.grows_too i.number us) grow_too)
          (λ vs us u v q m2 same given gd.
          n.follow sight ls Results Whatever Q (call i.number vs u) (blank i.number us v) g h
          (one_seen slot_of refl c f vs us u v m2 (given.fit (parameter_kinds slot_of) fits) same) gd (n.out_any sight (call i.number vs u)) grow grow_too
          (λ a b u2 v2 q2 m3 r z gd2. k a b u2 v2 m3 r gd2))

      pub call_hidden : {A : Type 0} (g : Option Value → M A) → Owes (calling slot_of) → list_all sight.sees pc ≡ false → At false (flat_map sites_in es) → Fits
          (parameter_kinds slot_of) es → (s : State) → Shaped sight.program sight.tid (kinds_of ls) s
          → ((a : Option Value) (u : State) → Shaped sight.program sight.tid (kinds_of ls) u → Hides ls Whatever (MayFail sight.sees F) u (g a u)) → Hides ls Whatever
          (MayFail sight.sees F) s ((values es >>= λ vs. call i.number vs >>= g) s)
      call_hidden g c e at fits s h k =
          n.hidden_then sight ls Whatever (args.Given sight.program sight.tid ls es) Whatever (MayFail sight.sees F) s (values es s) (λ vs. call i.number vs >>= g)
          (args.values_hidden sight view ls pc F es (labels_for slot_of) (given_kept slot_of c) e at s h) (args.out_values sight.program sight.tid ls es s h)
          (λ vs u q z given.
          n.hidden_then sight ls Whatever Whatever Whatever (MayFail sight.sees F) u (call i.number vs u) g
          (one_hidden slot_of refl c e vs u q.shaped (given.fit (parameter_kinds slot_of) fits)) (n.out_any sight (call i.number vs u))
          (λ a u2 q2 z2 y2. k a u2 q2.shaped))

    -- ---- new objects

    abbrev new_labels : Option Class → List Expression → List ℕ
    new_labels None es = []
    new_labels (Some c) es = for_each c.label.number es

    abbrev making : List ℕ → Option ℕ → ℕ → List Expression → Option Class → List Owed
    making = ob.making sight.program.classes sight.program.methods ls authority

    new_kept : (pc : List ℕ) (F : Option ℕ) (at : ℕ) (es : List Expression) (slot : Option Class) → Owes (making pc F at es slot) → Owes
        (ob.all_given sight.program.classes ls pc F es (new_labels slot es))
    new_kept pc F at es None c = c
    new_kept pc F at es (Some k) c = split_right _ (all_flow Write at pc k.label.number ++ ob.all_conf Access at pc k.access.number)
        (ob.all_given sight.program.classes ls pc F es (for_each k.label.number es)) c

    same_fields : (es : List Expression) (class : ℕ) (slot : Option Class) → slice_get sight.program.classes class ≡ slot → (vs us : List Value) → args.Given
        sight.program sight.tid ls es vs → ArgsSame sight.sees (new_labels slot es) vs us → sight.shows class ≡ true → vs ≡ us
    same_fields es class None e vs us g h i = absurd (true≢false (sym i ∙ view.absent class e))
    same_fields es class (Some c) e vs us g h i = all_same sight.sees c.label.number kind es vs us g.count h (sym (view.shown class c e) ∙ i)

    hidden_new : (pc : List ℕ) (F : Option ℕ) (at : ℕ) (es : List Expression) (class : ℕ) (slot : Option Class) → slice_get sight.program.classes class ≡ slot → Owes
        (making pc F at es slot) → list_all sight.sees pc ≡ false → sight.shows class ≡ false
    hidden_new pc F at es class None e c h = view.absent class e
    hidden_new pc F at es class (Some k) e c h = view.shown class k e ∙ flow_hidden sight.sees sight.shows sight.program Write at pc k.label.number
        (split_left _ (all_flow Write at pc k.label.number) (ob.all_conf Access at pc k.access.number)
        (split_left _ (all_flow Write at pc k.label.number ++ ob.all_conf Access at pc k.access.number)
        (ob.all_given sight.program.classes ls pc F es (for_each k.label.number es)) c)) h

    shown_fields : (class : ℕ) (vs us : List Value) → (sight.shows class ≡ true → vs ≡ us) → sight.shows class ≡ true → vs ≡ erase.fields_shown sight.sees sight.shows
        class us
    shown_fields class vs us f e = rw e (f e)

    abbrev new : Oid → List Value → Object
    new o vs = record { class = o.class; fields = vs }

    make_seen : (o : Oid) (vs us : List Value) (s t : State) → Near ls s t → sight.site_seen o.site ≡ true → (sight.shows o.class ≡ true → vs ≡ us) → AllSuit
        (class_kinds sight.program.classes o.class) vs → Good (state_behind (make o vs s)) → Beside ls Alike (make o vs s) (make o us t)
    make_seen o vs us s t m at same fit good =
        n.follow sight ls Any Whatever Alike (settled (created o (new o vs) s.heap) s) (settled (created o (new o us) t.heap) t) (λ z. gives (Ref o)) (λ z. gives (Ref o))
        (λ g. steps.make_seen sight ls o (new o vs) (new o us) s t m at (λ e. ap (new o) (same e)) (record { class = refl; fields = fit })) good
        (n.out_any sight (settled (created o (new o vs) s.heap) s)) (λ z. grows_gives (Ref o)) (λ z. grows_gives (Ref o))
        (λ a b u v q m2 r z g. both_go (Ref o) (Ref o) u v m2 refl)

    create_seen : (store class site : ℕ) (vs us : List Value) (s t : State) → Near ls s t → sight.site_seen site ≡ true → (sight.shows class ≡ true → vs ≡ us) → AllSuit
        (class_kinds sight.program.classes class) vs → Good (state_behind (create sight.tid store class site vs s)) → Beside ls Alike
        (create sight.tid store class site vs s) (create sight.tid store class site us t)
    create_seen store class site vs us s t m at same fit good =
        subst (λ o. Beside ls Alike (create sight.tid store class site vs s) (make o us t)) (sym (steps.name_same sight store class site s.heap t.heap m.heap at))
        (make_seen (next_name sight.tid store class site s.heap) vs us s t m at same fit good)

    create_hidden : (may : Type 0) (store class site : ℕ) (vs : List Value) (s : State) → Shaped sight.program sight.tid (kinds_of ls) s → sight.site_seen site ≡ false
        → sight.shows class ≡ false → AllSuit (class_kinds sight.program.classes class) vs → Hides ls Whatever may s (create sight.tid store class site vs s)
    create_hidden may store class site vs s h at hide fit =
        let o = next_name sight.tid store class site s.heap in
        n.hidden_then sight ls Whatever Whatever Whatever may s (settled (created o (new o vs) s.heap) s) (λ z. gives (Ref o))
        (steps.make_hidden sight ls may o (new o vs) s h hide (record { class = refl; fields = fit }) at) (n.out_any sight (settled (created o (new o vs) s.heap) s))
        (λ z u q y x2. went (Ref o) u (n.quiet_here sight ls u q.shaped) tt)

    -- ---- downgrades

    abbrev IsTurned : Downgrading → Type 0
    IsTurned = Turns sight

    down_by : (b : Value) (site from to : ℕ) (v w : Value) (s t : State) → Near ls s t → sight.site_seen site ≡ true → IsTurned (site, (from, to))
        → (sight.sees from ≡ true → v ≡ w) → Good (state_behind (noted_down site v s)) → (c d : Bool) → sight.sees from ≡ c → sight.sees to ≡ d
        → Beside ls (λ y z. sight.sees to ≡ true → y ≡ z) (noted_down site v s)
        (and_then ((if c then gives w else (if d then erase.take_given b else gives Null)) t) (noted_down site))
    down_by b site from to v w s t m at turned same good true d e i =
        steps.noted_alike sight ls (λ y z. sight.sees to ≡ true → y ≡ z) site v w s t m (turned.1 ∙ rw (at, e) refl) (turned.0 ∙ rw (at, e) refl) (same e) (λ k. same e)
    down_by b site from to v w s t m at turned same good false true e i =
        n.match_more sight ls Alike (λ y z. sight.sees to ≡ true → y ≡ z) (noted_down site v s) (and_then (taken b t.given t) (noted_down site)) (λ y z r k. r)
        (steps.noted_given sight ls site b v s t m (turned.0 ∙ rw (at, e, i) refl) good)
    down_by b site from to v w s t m at turned same good false false e i =
        steps.noted_quietly sight ls (λ y z. sight.sees to ≡ true → y ≡ z) site v Null s t m (turned.1 ∙ rw (at, e, i) refl) (λ k. absurd (true≢false (sym k ∙ i)))

    -- ---- what is assigned

    abbrev right_owes : List ℕ → Option ℕ → Right → List Owed
    right_owes = ob.right_owes sight.program.classes sight.program.methods ls authority

    abbrev right_labels : Right → List ℕ
    right_labels = ob.right_labels sight.program.classes sight.program.methods ls authority

    abbrev blank_right : Value → Right → M Value
    blank_right = erase.right sight.sees sight.shows sight.program.classes ls sight.tid blank

    abbrev Rights : Right → Value → Value → Type 0
    Rights r v w = list_all sight.sees (right_labels r) ≡ true → v ≡ w

    -- what a downgrade owes
    module _ (d : Downgrade) (e : Expression) (from to place : ℕ) (pc : List ℕ) (F : Option ℕ) where
      abbrev down_flow : List Owed
      down_flow = all_flow Write place (owed_by e).labels from

      abbrev down_last : List Owed
      down_last = ob.downgrading sight.program.classes sight.program.methods ls authority d place from to ∷ []

      down_value : Owes ((owed_by e).owes pc F ++ down_flow ++ down_last) → Owes ((owed_by e).owes pc F)
      down_value c = split_left _ ((owed_by e).owes pc F) down_flow (split_left _ ((owed_by e).owes pc F ++ down_flow) down_last c)

      down_from : Owes ((owed_by e).owes pc F ++ down_flow ++ down_last) → Owes down_flow
      down_from c = split_right _ ((owed_by e).owes pc F) down_flow (split_left _ ((owed_by e).owes pc F ++ down_flow) down_last c)

    pub right_seen : (r : Right) (b : Value) (pc : List ℕ) (F : Option ℕ) → Owes (right_owes pc F r) → IsSeenFailure sight.sees F → At true (right_sites r)
        → AllByRecursion IsTurned (downgrades_in_right r) → AllByRecursion (Meets sight.program sight.tid)
        (right_claims sight.program.classes sight.program.methods (kinds_of ls) r)
        → (s t : State) → Near ls s t → Good (state_behind (right sight.tid call r s)) → Beside ls (Rights r) (right sight.tid call r s) (blank_right b r t)
    right_seen (rights.Plain e) b pc F c g at turned met s t m good =
        n.match_more sight ls (λ v w. (part e).seen ≡ true → v ≡ w) (Rights (rights.Plain e)) (value e s) ((part e).run t) (λ v w r k. r ((known e).seen_is ∙ k))
        ((known e).seen pc F c g at s t m good)
    right_seen (rights.Call i es) b pc F c g at turned met s t m good =
        call_seen pc F i es (Rights (rights.Call i es)) (λ z. gives (unwrap_or z Null)) (λ z. gives (unwrap_or z Null)) c g at met (λ z. grows_gives (unwrap_or z Null))
        (λ z. grows_gives (unwrap_or z Null)) s t m good
        (λ y z u v m2 r gd. both_go (unwrap_or y Null) (unwrap_or z Null) u v m2 r)
    right_seen (rights.New class store es site place) b pc F c g at turned met s t m good =
        n.follow sight ls (ArgsSame sight.sees (new_labels (slice_get sight.program.classes class.number) es)) (args.Given sight.program sight.tid ls es)
        (Rights (rights.New class store es site place)) (values es s) (blanks es t) (create sight.tid store.number class.number site)
        (λ us. create sight.tid store.number class.number site (erase.fields_shown sight.sees sight.shows class.number us))
        (args.values_seen sight view ls pc F es (new_labels (slice_get sight.program.classes class.number) es)
        (new_kept pc F place es (slice_get sight.program.classes class.number) c.1) g at.1 s t m) good (args.out_values sight.program sight.tid ls es s m.shaped)
        (λ vs. grows_create sight.tid store.number class.number site vs)
        (λ us. grows_create sight.tid store.number class.number site (erase.fields_shown sight.sees sight.shows class.number us))
        (λ vs us u v q m2 same given gd.
        n.match_more sight ls Alike (Rights (rights.New class store es site place)) (create sight.tid store.number class.number site vs u)
        (create sight.tid store.number class.number site (erase.fields_shown sight.sees sight.shows class.number us) v) (λ y z r k. r)
        (create_seen store.number class.number site vs (erase.fields_shown sight.sees sight.shows class.number us) u v m2 at.0
        (shown_fields class.number vs us (same_fields es class.number (slice_get sight.program.classes class.number) refl vs us given same))
        (given.fit (class_kinds sight.program.classes class.number) met.1) gd))
    right_seen (rights.Downgrade d e from to site place) b pc F c g at turned met s t m good =
        n.follow sight ls (λ v w. (part e).seen ≡ true → v ≡ w) Whatever (Rights (rights.Downgrade d e from to site place)) (value e s) ((part e).run t)
        (noted_down site) (λ w. erase.downgraded sight.sees sight.shows sight.program.classes ls b from.number to.number w >>= noted_down site)
        ((known e).seen pc F (down_value d e from.number to.number place pc F c) g at.1 s t m) good (n.out_any sight (value e s)) (λ v. grows_noted site v)
        (λ w. grows_bind (erase.downgraded sight.sees sight.shows sight.program.classes ls b from.number to.number w) (noted_down site)
        (grow.grows_downgraded sight.sees sight.shows sight.program.classes ls b from.number to.number w) (λ z. grows_noted site z))
        (λ v w u u2 q m2 r z gd.
        n.match_more sight ls (λ y2 z2. sight.sees to.number ≡ true → y2 ≡ z2) (Rights (rights.Downgrade d e from to site place)) (noted_down site v u)
        (and_then (erase.downgraded sight.sees sight.shows sight.program.classes ls b from.number to.number w u2) (noted_down site))
        (λ y2 z2 k l. k (and_parts (sight.sees to.number) true l).0)
        (down_by b site from.number to.number v w u u2 m2 at.0 turned.0
        (λ k. r ((known e).seen_is ∙ flow_seen sight.sees sight.shows sight.program Write place (owed_by e).labels from.number
        (down_from d e from.number to.number place pc F c) k)) gd (sight.sees from.number) (sight.sees to.number) refl refl))

    pub right_hidden : (r : Right) (pc : List ℕ) (F : Option ℕ) → Owes (right_owes pc F r) → list_all sight.sees pc ≡ false → At false (right_sites r) → AllByRecursion
        IsTurned (downgrades_in_right r) → AllByRecursion (Meets sight.program sight.tid) (right_claims sight.program.classes sight.program.methods (kinds_of ls) r)
        → (s : State) → Shaped sight.program sight.tid (kinds_of ls) s → Hides ls Whatever (MayFail sight.sees F) s (right sight.tid call r s)
    right_hidden (rights.Plain e) pc F c h at turned met s shaped = (known e).hidden pc F c h at s shaped
    right_hidden (rights.Call i es) pc F c h at turned met s shaped = call_hidden pc F i es (λ z. gives (unwrap_or z Null)) c h at met s shaped
        (λ a u k. went (unwrap_or a Null) u (n.quiet_here sight ls u k) tt)
    right_hidden (rights.New class store es site place) pc F c h at turned met s shaped =
        n.hidden_then sight ls Whatever (args.Given sight.program sight.tid ls es) Whatever (MayFail sight.sees F) s (values es s)
        (create sight.tid store.number class.number site)
        (args.values_hidden sight view ls pc F es (new_labels (slice_get sight.program.classes class.number) es)
        (new_kept pc F place es (slice_get sight.program.classes class.number) c.1) h at.1 s shaped) (args.out_values sight.program sight.tid ls es s shaped)
        (λ vs u q z given. create_hidden (MayFail sight.sees F) store.number class.number site vs u q.shaped at.0
        (hidden_new pc F place es class.number (slice_get sight.program.classes class.number) refl c.1 h)
        (given.fit (class_kinds sight.program.classes class.number) met.1))
    right_hidden (rights.Downgrade d e from to site place) pc F c h at turned met s shaped =
        n.hidden_then sight ls Whatever Whatever Whatever (MayFail sight.sees F) s (value e s) (noted_down site)
        ((known e).hidden pc F (down_value d e from.number to.number place pc F c) h at.1 s shaped) (n.out_any sight (value e s))
        (λ v u q z y. steps.noted_hidden sight ls (MayFail sight.sees F) site v u q.shaped
        (turned.0.1 ∙ ap (λ b. b && (sight.sees from.number || sight.sees to.number)) at.0))
