-- What is done at once over what is known is done over more objects, too, unless one lacked.
use Rattle.std.proofs.Common.{◌≡◌, ℕ, ◌-◌, List, [], ◌∷◌, ◌++◌, Option, Some, None, Bool, true, false, ◌==◌, cond, if◌then◌else◌, refl, sym, ap, ◌∙◌, subst}
use Rattle.fab_base.specs.declared.object.Oid.{Oid}
use Rattle.fab_base.specs.declared.object.Object.{Object}
use Rattle.fab_base.specs.declared.object.Tid.{Tid}
use Rattle.fab_base.specs.declared.object.Value.{Value}
use Rattle.fab_base.specs.declared.object.Value.TheVariants.{Ref}
use Rattle.fab_base.specs.declared.object.Stop.TheVariants.{Fuel}
use Rattle.fab_base.specs.FlatMap.{FlatMap, get, put, put_all}
use Rattle.fab_base.specs.Values.{referred}
use Rattle.fab_tree.specs.declared.resolved.Expression.{Expression}
use Rattle.fab_tree.specs.declared.resolved.Return.{Return}
use Rattle.fab_tree.specs.declared.resolved.Right.{Right}
use Rattle.fab_tree.specs.declared.resolved.Right.TheVariants as rights
use Rattle.fab_tree.specs.declared.resolved.Statement.{Statement, out-Statement}
use Rattle.fab_tree.specs.declared.resolved.Statement.TheOpen as form
use Rattle.fab_language.specs.Heaps.{Heap, full, found, reach_in, reach_before, is_among, is_full, touched, noted, is_changed, is_spent, with_row, newly_written}
use Rattle.fab_language.specs.Heaps.{created}
use Rattle.fab_language.specs.Meaning.{State, failed, stopped, Run, goes, ends, M, and_then, gives, ◌>>=◌, ◌>>◌, charge, local, assign, reached, access, field_of}
use Rattle.fab_language.specs.Meaning.{with_field, led, read, settled, replace, write, next_name, create, noted_down, value, values, returned}
use Rattle.fab_laws.specs.Changes.{IsOf}
use Rattle.fab_laws.specs.Runs.{state_behind}
use Rattle.fab_laws.proofs.Names.{with_written, with_new}
use Rattle.fab_laws.proofs.Everywhere as all
use Rattle.fab_laws.proofs.Everywhere.{OfReads, Anywhere, every}
use Rattle.fab_left.specs.Left.{IsSure, widened, wider, with_more, Fresh, Stems}
use Rattle.fab_left.specs.Deeds.{passed}
use Rattle.fab_left.specs.Acts.{taken, right_act, work, act}
use Rattle.fab_left.proofs.Wider.{put_all_put, get_put_all, others, others_made, stems_written, stems_made}

module _ (tid : Tid) (known : FlatMap) where
  abbrev Good : State → Type 0
  Good t = Stems tid known t.heap.rows

  pub record Carries {A : Type 0} (m : M A) : Type 0 where
    pub by : (t : State) (more : FlatMap) → Good t → Fresh tid known more → IsSure (m t) → m (wider more t) ≡ widened more (m t)
    pub keeps : (t : State) → Good t → Good (state_behind (m t))

  run_by : {A B : Type 0} (more : FlatMap) (r q : Run A) (f : A → M B) → (IsSure r → q ≡ widened more r) → Good (state_behind r) → Fresh tid known more
      → ((a : A) → Carries (f a))
      → IsSure (and_then r f) → and_then q f ≡ widened more (and_then r f)
  run_by more (goes a t) q f h g fresh k w = ap (λ x. and_then x f) (h tt) ∙ (k a).by t more g fresh w
  run_by more (ends e t) q f h g fresh k w = ap (λ x. and_then x f) (h w)

  run_keeps : {A B : Type 0} (r : Run A) (f : A → M B) → Good (state_behind r) → ((a : A) → Carries (f a)) → Good (state_behind (and_then r f))
  run_keeps (goes a t) f g k = (k a).keeps t g
  run_keeps (ends e t) f g k = g

  pub bind : {A B : Type 0} (m : M A) (f : A → M B) → Carries m → ((a : A) → Carries (f a)) → Carries (m >>= f)
  bind m f h k = record {
    by = λ t more g fresh w. run_by more (m t) (m (wider more t)) f (h.by t more g fresh) (h.keeps t g) fresh k w;
    keeps = λ t g. run_keeps (m t) f (h.keeps t g) k;
  }

  pub then_ : {A B : Type 0} (m : M A) (n : M B) → Carries m → Carries n → Carries (m >> n)
  then_ m n h k = bind m (λ _. n) h (λ _. k)

  -- where objects have no say
  pub calm : {A : Type 0} (m : M A) → ((t : State) (more : FlatMap) → m (wider more t) ≡ widened more (m t)) → ((t : State) → (state_behind (m t)).heap ≡ t.heap)
      → Carries m
  calm m h k = record { by = λ t more g fresh w. h t more; keeps = λ t g. subst (λ (h : Heap). Stems tid known h.rows) (sym (k t)) g }

  pub given : {A : Type 0} (a : A) → Carries (gives a)
  given a = calm _ (λ t more. refl) (λ t. refl)

  pub failing : {A : Type 0} → Carries {A = A} (ends failed)
  failing = calm _ (λ t more. refl) (λ t. refl)

  pub locals : (x : ℕ) → Carries (local x)
  locals x = calm _ (λ t more. refl) (λ t. refl)

  pub assigns : (x : ℕ) (v : Value) → Carries (assign x v)
  assigns x v = calm _ (λ t more. refl) (λ t. refl)

  pub downs : (site : ℕ) (v : Value) → Carries (noted_down site v)
  downs site v = calm _ (λ t more. refl) (λ t. refl)

  pub charges : Carries charge
  charges = calm charge (λ t more. step (t.fuel == 0) t more) (λ t. still (t.fuel == 0) t)
    where
      step : (b : Bool) (t : State) (more : FlatMap) → cond b (ends (stopped Fuel) (wider more t)) (goes tt (record (wider more t) { fuel = t.fuel - 1 }))
          ≡ widened {A = Unit {0}} more (cond b (ends (stopped Fuel) t) (goes tt (record t { fuel = t.fuel - 1 })))
      step true t more = refl
      step false t more = refl

      still : (b : Bool) (t : State) → (state_behind {A = Unit {0}} (cond b (ends (stopped Fuel) t) (goes tt (record t { fuel = t.fuel - 1 })))).heap ≡ t.heap
      still true t = refl
      still false t = refl

  -- ---- objects

  -- what is done with an object that is reached, which is there
  module _ {A : Type 0} (site : ℕ) (o : Oid) (f : Object → M A)
      (by_object : (y : Object) (t : State) (more : FlatMap) → Good t → Fresh tid known more → get t.heap.rows o ≡ Some y → IsSure (f y t)
      → f y (wider more t) ≡ widened more (f y t))
      (keeps_object : (y : Object) (t : State) → Good t → get t.heap.rows o ≡ Some y → Good (state_behind (f y t))) where
    at_full : (b : Bool) (y : Object) (t : State) (more : FlatMap) → Good t → Fresh tid known more → get t.heap.rows o ≡ Some y
        → IsSure (and_then (reached site o (if b then full else found y (noted site o t.touches)) t) f)
        → and_then (reached site o (if b then full else found y (noted site o t.touches)) (wider more t)) f
        ≡ widened more (and_then (reached site o (if b then full else found y (noted site o t.touches)) t) f)
    at_full true y t more g fresh e w = refl
    at_full false y t more g fresh e w = by_object y (record t { touches = noted site o t.touches }) more g fresh e w

    at_made : (b : Bool) (y : Object) (t : State) (more : FlatMap) → Good t → Fresh tid known more → get t.heap.rows o ≡ Some y
        → IsSure (and_then (reached site o (if b then found y t.touches else reach_before site o y t.touches) t) f)
        → and_then (reached site o (if b then found y t.touches else reach_before site o y t.touches) (wider more t)) f
        ≡ widened more (and_then (reached site o (if b then found y t.touches else reach_before site o y t.touches) t) f)
    at_made true y t more g fresh e w = by_object y t more g fresh e w
    at_made false y t more g fresh e w = at_full (is_full o (touched t.touches)) y t more g fresh e w

    at_row : (v : Option Object) (t : State) (more : FlatMap) → get t.heap.rows o ≡ v → Good t → Fresh tid known more
        → IsSure (and_then (reached site o (reach_in site o v t.heap.made t.touches) t) f)
        → and_then (access site o (wider more t)) f ≡ widened more (and_then (reached site o (reach_in site o v t.heap.made t.touches) t) f)
    at_row None t more e g fresh w = absurd w
    at_row (Some y) t more e g fresh w =
        ap (λ v. and_then (reached site o (reach_in site o v t.heap.made t.touches) (wider more t)) f)
        (get_put_all o more t.heap.rows (others tid known o y t.heap.rows more g e fresh) ∙ e)
        ∙ at_made (is_among o t.heap.made) y t more g fresh e w

    full_keeps : (b : Bool) (y : Object) (t : State) → Good t → get t.heap.rows o ≡ Some y
        → Good (state_behind (and_then (reached site o (if b then full else found y (noted site o t.touches)) t) f))
    full_keeps true y t g e = g
    full_keeps false y t g e = keeps_object y (record t { touches = noted site o t.touches }) g e

    made_keeps : (b : Bool) (y : Object) (t : State) → Good t → get t.heap.rows o ≡ Some y
        → Good (state_behind (and_then (reached site o (if b then found y t.touches else reach_before site o y t.touches) t) f))
    made_keeps true y t g e = keeps_object y t g e
    made_keeps false y t g e = full_keeps (is_full o (touched t.touches)) y t g e

    row_keeps : (v : Option Object) (t : State) → get t.heap.rows o ≡ v → Good t
        → Good (state_behind (and_then (reached site o (reach_in site o v t.heap.made t.touches) t) f))
    row_keeps None t e g = g
    row_keeps (Some y) t e g = made_keeps (is_among o t.heap.made) y t g e

    accesses : Carries (access site o >>= f)
    accesses = record {
      by = λ t more g fresh w. at_row (get t.heap.rows o) t more refl g fresh w;
      keeps = λ t g. row_keeps (get t.heap.rows o) t refl g;
    }

  pub reads_one : (site field : ℕ) (o : Oid) → Carries (read site field (Ref o))
  reads_one site field o = accesses site o (λ x. gives (field_of field x)) (λ y t more g fresh e w. refl) (λ y t g e. g)

  -- an object takes the place of one that is there
  module _ (o : Oid) (x y : Object) (t : State) (g : Good t) (e : get t.heap.rows o ≡ Some y) where
    module _ (more : FlatMap) (fresh : Fresh tid known more) where
      moved : put o x (put_all more t.heap.rows) ≡ put_all more (put o x t.heap.rows)
      moved = sym (put_all_put o x more t.heap.rows (others tid known o y t.heap.rows more g e fresh) g.ascending)

      at_room : (b : Bool) → settled (if b then None else Some (with_written o x (with_more more t.heap))) (wider more t)
          ≡ widened more (settled (if b then None else Some (with_written o x t.heap)) t)
      at_room true = refl
      at_room false = ap (λ rows. goes tt (record t { heap = record { rows = rows; written = t.heap.written ++ o ∷ []; made = t.heap.made } })) moved

      at_change : (b : Bool) → settled (if b then Some (with_row o x (with_more more t.heap)) else newly_written o x (with_more more t.heap)) (wider more t)
          ≡ widened more (settled (if b then Some (with_row o x t.heap) else newly_written o x t.heap) t)
      at_change true = ap (λ rows. goes tt (record t { heap = record { rows = rows; written = t.heap.written; made = t.heap.made } })) moved
      at_change false = at_room (is_spent t.heap)

      replaces : replace o x (wider more t) ≡ widened more (replace o x t)
      replaces = at_change (is_changed o t.heap)

    room_keeps : (b : Bool) → Good (state_behind (settled (if b then None else Some (with_written o x t.heap)) t))
    room_keeps true = g
    room_keeps false = stems_written tid known o x y t.heap.rows e g

    change_keeps : (b : Bool) → Good (state_behind (settled (if b then Some (with_row o x t.heap) else newly_written o x t.heap) t))
    change_keeps true = stems_written tid known o x y t.heap.rows e g
    change_keeps false = room_keeps (is_spent t.heap)

    replace_keeps : Good (state_behind (replace o x t))
    replace_keeps = change_keeps (is_changed o t.heap)

  pub writes_one : (site field : ℕ) (v : Value) (o : Oid) → Carries (write site field v (Ref o))
  writes_one site field v o = accesses site o (λ x. replace o (with_field field v x))
      (λ y t more g fresh e w. replaces o (with_field field v y) y t g e more fresh) (λ y t g e. replace_keeps o (with_field field v y) y t g e)

  -- an object is made
  module _ (o : Oid) (x : Object) (of : IsOf tid o) (t : State) (g : Good t) where
    at_new : (more : FlatMap) → Fresh tid known more → (b : Bool) → settled (if b then None else Some (with_new o x (with_more more t.heap))) (wider more t)
        ≡ widened more (settled (if b then None else Some (with_new o x t.heap)) t)
    at_new more fresh true = refl
    at_new more fresh false = ap (λ rows. goes tt (record t { heap = record { rows = rows; written = t.heap.written; made = t.heap.made ++ o ∷ [] } }))
        (sym (put_all_put o x more t.heap.rows (others_made tid known o more of fresh) g.ascending))

    new_keeps : (b : Bool) → Good (state_behind (settled (if b then None else Some (with_new o x t.heap)) t))
    new_keeps true = g
    new_keeps false = stems_made tid known o x t.heap.rows of g

  after_new : (o : Oid) (more : FlatMap) (r q : Run (Unit {0})) → q ≡ widened more r → and_then q (λ _. gives (Ref o)) ≡ widened more (and_then r (λ _. gives (Ref o)))
  after_new o more (goes u t) q e = ap (λ x. and_then x (λ _. gives (Ref o))) e
  after_new o more (ends x t) q e = ap (λ x. and_then x (λ _. gives (Ref o))) e

  pub makes_one : (store class site : ℕ) (vs : List Value) → Carries (create tid store class site vs)
  makes_one store class site vs = record {
    by = λ t more g fresh w.
        let o = next_name tid store class site t.heap in
        let x : Object = record { class = class; fields = vs } in
        after_new o more (settled (created o x t.heap) t) (settled (created o x (with_more more t.heap)) (wider more t))
        (at_new o x (of_attempt store class site t.heap) t g more fresh (is_spent t.heap));
    keeps = λ t g.
        let o = next_name tid store class site t.heap in
        let x : Object = record { class = class; fields = vs } in
        run_keeps (settled (created o x t.heap) t) (λ _. gives (Ref o)) (new_keeps o x (of_attempt store class site t.heap) t g (is_spent t.heap)) (λ _. given (Ref o));
  }
    where
      of_attempt : (store class site : ℕ) (h : Heap) → IsOf tid (next_name tid store class site h)
      of_attempt store class site h = record { worker = refl; boot = refl; number = refl }

  -- ---- expressions

  abbrev pub Carry : (A : Type 0) → M A → Type 0
  Carry A m = Carries {A = A} m

  pub reads : (shows : ℕ → Bool) → OfReads Carry Anywhere shows
  reads shows = record {
    given = λ a. given a;
    bound = λ m g h k. bind m g h k;
    fell = failing;
    named = locals;
    got = λ site field o at show. reads_one site field o;
  }

  pub value_carries : (e : Expression) → Carries (value e)
  value_carries e = all.expressions Carry (reads every) e

  pub values_carry : (es : List Expression) → Carries (values es)
  values_carry es = all.all_values Carry (reads every) es

  pub returned_carries : (r : Option Return) → Carries (returned r)
  returned_carries r = all.all_returned Carry (reads every) r

  pub led_carries : {A : Type 0} (o : Option Oid) (f : Oid → M A) → ((p : Oid) → Carries (f p)) → Carries (led o f)
  led_carries None f k = failing
  led_carries (Some o) f k = k o

  pub writes : (site field : ℕ) (v w : Value) → Carries (write site field v w)
  writes site field v w = led_carries (referred w) _ (λ o. writes_one site field v o)

  -- ---- what statements do at once

  takes : (x : ℕ) (v : Value) → Carries (taken x v)
  takes x v = then_ (assign x v) (gives passed) (assigns x v) (given passed)

  rights_carry : (x : ℕ) (y : Right) → Carries (right_act tid x y)
  rights_carry x (rights.Plain e) = bind (value e) (taken x) (value_carries e) (takes x)
  rights_carry x (rights.Call n args) = bind (values args) _ (values_carry args) (λ vs. given _)
  rights_carry x (rights.New class store args site at) = bind (values args) _ (values_carry args)
      (λ vs. bind (create tid store.number class.number site vs) (taken x) (makes_one store.number class.number site vs) (takes x))
  rights_carry x (rights.Downgrade downgrade e from to site at) = bind (value e >>= noted_down site) (taken x)
      (bind (value e) (noted_down site) (value_carries e) (downs site)) (takes x)

  works : (y : form.Statement-F Statement) → Carries (work tid y)
  works (form.Assign x r at) = rights_carry x r
  works (form.Write x field e site) = bind (value e) _ (value_carries e)
      (λ v. bind (local x.number) _ (locals x.number) (λ o. then_ (write site field v o) (gives passed) (writes site field v o) (given passed)))
  works (form.Call n args) = bind (values args) _ (values_carry args) (λ vs. given _)
  works (form.If e a b) = bind (value e) _ (value_carries e) (λ v. given _)
  works (form.While e a) = bind (value e) _ (value_carries e) (λ v. given _)
  works (form.Atomic label a b at) = given _
  works (form.Fail at) = failing

  pub acts : (s : Statement) → Carries (act tid s)
  acts s = then_ charge (work tid (out-Statement s)) charges (works (out-Statement s))
