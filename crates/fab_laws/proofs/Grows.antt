-- Touches and downgraded values are only ever noted behind those before.
use Rattle.std.proofs.Common.{◌≡◌, ℕ, ◌-◌, List, [], ◌∷◌, ◌++◌, Option, Some, None, Bool, true, false, ◌==◌, cond, if◌then◌else◌, map, append_assoc, append-nil, sym}
use Rattle.std.proofs.Common.{ap, ◌∙◌, refl}
use Rattle.std.specs.Prelude.{slice_set}
use Rattle.fab_base.specs.declared.object.Oid.{Oid}
use Rattle.fab_base.specs.declared.object.Object.{Object}
use Rattle.fab_base.specs.declared.object.Tid.{Tid}
use Rattle.fab_base.specs.declared.object.Value.{Value}
use Rattle.fab_base.specs.declared.object.Value.TheVariants.{Ref}
use Rattle.fab_base.specs.declared.object.Stop.TheVariants.{Fuel}
use Rattle.fab_base.specs.FlatMap.{get}
use Rattle.fab_tree.specs.declared.expression.Operator.{Operator}
use Rattle.fab_tree.specs.declared.resolved.Expression.{Expression}
use Rattle.fab_tree.specs.declared.resolved.Operand.{Operand}
use Rattle.fab_tree.specs.declared.resolved.Return.{Return}
use Rattle.fab_tree.specs.declared.resolved.Right.{Right}
use Rattle.fab_tree.specs.declared.resolved.Resolved.{Resolved}
use Rattle.fab_language.specs.Heaps.{Heap, full, found, reach_in, reach_before, is_among, is_full, touched, noted, replaced, created}
use Rattle.fab_language.specs.Meaning.{State, failed, stopped, missing, Run, goes, ends, M, and_then, gives, ◌>>=◌, ◌>>◌, charge, local, assign, reached, access}
use Rattle.fab_language.specs.Meaning.{field_of, with_field, read, settled, replace, write}
use Rattle.fab_language.specs.Meaning.{next_name, create, noted_down, or_else, atomically, back_with, operate, chained, turns, loop, operand_value, value, values}
use Rattle.fab_language.specs.Meaning.{returned, right, called}
use Rattle.fab_laws.specs.Runs.{state_behind}
use Rattle.fab_laws.proofs.Names.{noted_front}
use Rattle.fab_laws.proofs.Everywhere as all
use Rattle.fab_laws.proofs.Everywhere.{OfReads, OfSteps, Anywhere, every}

pub record Longer (t u : State) : Type 0 where
  pub touches : (more : List (ℕ × Oid)) × (u.touches ≡ t.touches ++ more)
  pub downs : (more : List (ℕ × Value)) × (u.downs ≡ t.downs ++ more)

pub joined : {A : Type 0} (xs ys zs : List A) → (more : List A) × (ys ≡ xs ++ more) → (more : List A) × (zs ≡ ys ++ more) → (more : List A) × (zs ≡ xs ++ more)
joined xs ys zs m n = (m.0 ++ n.0, n.1 ∙ ap (λ l. l ++ n.0) m.1 ∙ append_assoc xs m.0 n.0)

pub longer : (t u v : State) → Longer t u → Longer u v → Longer t v
longer t u v m n = record { touches = joined t.touches u.touches v.touches m.touches n.touches; downs = joined t.downs u.downs v.downs m.downs n.downs }

-- nothing was noted
pub as_long : (t u : State) → u.touches ≡ t.touches → u.downs ≡ t.downs → Longer t u
as_long t u e g = record { touches = ([], e ∙ sym (append-nil t.touches)); downs = ([], g ∙ sym (append-nil t.downs)) }

abbrev pub Grows : {A : Type 0} → M A → Type 0
Grows m = (t : State) → Longer t (state_behind (m t))

-- ---- one after the other

pub grows_past : {A B : Type 0} (r : Run A) (g : A → M B) → ((a : A) → Grows (g a)) → Longer (state_behind r) (state_behind (and_then r g))
grows_past (goes a t) g k = k a t
grows_past (ends e t) g k = as_long t t refl refl

pub grows_then : {A B : Type 0} (t : State) (r : Run A) (g : A → M B) → Longer t (state_behind r) → ((a : A) → Grows (g a)) → Longer t (state_behind (and_then r g))
grows_then t r g h k = longer t (state_behind r) (state_behind (and_then r g)) h (grows_past r g k)

pub grows_gives : {A : Type 0} (a : A) → Grows (gives a)
grows_gives a t = as_long t t refl refl

pub grows_bind : {A B : Type 0} (m : M A) (g : A → M B) → Grows m → ((a : A) → Grows (g a)) → Grows (m >>= g)
grows_bind m g h k t = grows_then t (m t) g (h t) k

pub grows_seq : {A B : Type 0} (m : M A) (n : M B) → Grows m → Grows n → Grows (m >> n)
grows_seq m n h k t = grows_then t (m t) (λ _. n) (h t) (λ _. k)

pub grows_cond : {A : Type 0} (b : Bool) (m n : M A) → Grows m → Grows n → Grows (if b then m else n)
grows_cond true m n h k = h
grows_cond false m n h k = k

-- ---- steps

pub grows_charge : Grows charge
grows_charge t = by_fuel (t.fuel == 0)
  where
    by_fuel : (b : Bool) → Longer t (state_behind {A = Unit {0}} (cond b (ends (stopped Fuel) t) (goes tt (record t { fuel = t.fuel - 1 }))))
    by_fuel true = as_long t t refl refl
    by_fuel false = as_long t (record t { fuel = t.fuel - 1 }) refl refl

grows_full : (b : Bool) (site : ℕ) (o : Oid) (x : Object) (t : State) → Longer t (state_behind (reached site o (if b then full else found x (noted site o t.touches)) t))
grows_full true site o x t = as_long t t refl refl
grows_full false site o x t = record { touches = noted_front site o t.touches; downs = ([], sym (append-nil t.downs)) }

pub grows_made : (b : Bool) (site : ℕ) (o : Oid) (x : Object) (t : State)
    → Longer t (state_behind (reached site o (if b then found x t.touches else reach_before site o x t.touches) t))
grows_made true site o x t = as_long t t refl refl
grows_made false site o x t = grows_full (is_full o (touched t.touches)) site o x t

grows_reached : (v : Option Object) (site : ℕ) (o : Oid) (t : State) → Longer t (state_behind (reached site o (reach_in site o v t.heap.made t.touches) t))
grows_reached None site o t = as_long t t refl refl
grows_reached (Some x) site o t = grows_made (is_among o t.heap.made) site o x t

pub grows_access : (site : ℕ) (o : Oid) → Grows (access site o)
grows_access site o t = grows_reached (get t.heap.rows o) site o t

pub grows_settled : (v : Option Heap) (t : State) → Longer t (state_behind (settled v t))
grows_settled None t = as_long t t refl refl
grows_settled (Some h) t = as_long t (record t { heap = h }) refl refl

pub grows_replace : (o : Oid) (x : Object) → Grows (replace o x)
grows_replace o x t = grows_settled (replaced o x t.heap) t

pub grows_create : (tid : Tid) (store class site : ℕ) (vs : List Value) → Grows (create tid store class site vs)
grows_create tid store class site vs t =
    let o = next_name tid store class site t.heap in
    let x : Object = record { class = o.class; fields = vs } in
    grows_then t (settled (created o x t.heap) t) (λ _. gives (Ref o)) (grows_settled (created o x t.heap) t) (λ _. grows_gives (Ref o))

pub grows_noted : (site : ℕ) (v : Value) → Grows (noted_down site v)
grows_noted site v t = record { touches = ([], sym (append-nil t.touches)); downs = ((site, v) ∷ [], refl) }

pub after_longer : (t : State) (r : Run (Unit {0})) (other : M (Unit {0})) → Grows other → Longer (state_behind r) (state_behind (or_else t r other))
after_longer t (goes u q) other k = as_long q q refl refl
after_longer t (ends failed q) other k = let l = k (record q { locals = t.locals; heap = t.heap }) in record { touches = l.touches; downs = l.downs }
after_longer t (ends (stopped stop) q) other k = as_long q q refl refl
after_longer t (ends (missing site o) q) other k = as_long q q refl refl

pub grows_atomic : (body other : M (Unit {0})) → Grows body → Grows other → Grows (atomically body other)
grows_atomic body other h k t = longer t (state_behind (body t)) (state_behind (or_else t (body t) other)) (h t) (after_longer t (body t) other k)

pub back_longer : {A : Type 0} (ls : List Value) (r : Run A) → Longer (state_behind r) (state_behind (back_with ls r))
back_longer ls (goes a t) = as_long t (record t { locals = ls }) refl refl
back_longer ls (ends e t) = as_long t (record t { locals = ls }) refl refl

pub grows_inside : (locals : List Value) (m : M (Option Value)) → Grows m → Grows (λ t. back_with t.locals (m (record t { locals = locals })))
grows_inside locals m h t =
    let inner = record t { locals = locals } in
    let l = longer inner (state_behind (m inner)) (state_behind (back_with t.locals (m inner))) (h inner) (back_longer t.locals (m inner)) in
    record { touches = l.touches; downs = l.downs }

-- ---- whatever is done, at any sites and of any classes

abbrev Grow : (A : Type 0) → M A → Type 0
Grow A m = Grows {A = A} m

module _ (Spot : ℕ → Type 0) (shows : ℕ → Bool) where
  pub reads_grow : OfReads Grow Spot shows
  reads_grow = record {
    given = λ a. grows_gives a;
    bound = λ m g h k. grows_bind m g h k;
    fell = λ t. as_long t t refl refl;
    named = λ x t. as_long t t refl refl;
    got = λ site field o at show. grows_bind (access site o) (λ x. gives (field_of field x)) (grows_access site o) (λ x. grows_gives (field_of field x));
  }

  pub steps_grow : OfSteps Grow Spot shows
  steps_grow = record {
    reads = reads_grow;
    halted = λ stop t. as_long t t refl refl;
    charged = grows_charge;
    assigned = λ x v t. as_long t (record t { locals = slice_set t.locals x v }) refl refl;
    wrote = λ site field v o at show.
        grows_bind (access site o) (λ x. replace o (with_field field v x)) (grows_access site o) (λ x. grows_replace o (with_field field v x));
    made = λ tid store class site vs at. grows_create tid store class site vs;
    downed = grows_noted;
    looped = λ test body k t. k t.fuel t;
    tried = grows_atomic;
    inside = grows_inside;
  }

reads : OfReads Grow Anywhere every
reads = reads_grow Anywhere every

steps : OfSteps Grow Anywhere every
steps = steps_grow Anywhere every

pub grows_local : (x : ℕ) → Grows (local x)
grows_local x t = as_long t t refl refl

pub grows_assign : (x : ℕ) (v : Value) → Grows (assign x v)
grows_assign x v t = as_long t (record t { locals = slice_set t.locals x v }) refl refl

pub grows_read : (site field : ℕ) (v : Value) → Grows (read site field v)
grows_read = all.read_one Grow reads

pub grows_write : (site field : ℕ) (v w : Value) → Grows (write site field v w)
grows_write = all.write_one Grow steps

pub grows_operate : (o : Operator) (a b : Value) → Grows (operate o a b)
grows_operate = all.operates Grow Anywhere every reads

pub grows_paid : (m : M (Unit {0})) → Grows m → Grows (charge >> m)
grows_paid = all.paid Grow Anywhere every steps

pub grows_turns : (n : ℕ) (test : M Value) (body : M (Unit {0})) → Grows test → Grows body → Grows (turns n test body)
grows_turns = all.all_turns Grow Anywhere every steps

pub grows_loop : (test : M Value) (body : M (Unit {0})) → Grows test → Grows body → Grows (loop test body)
grows_loop = all.loops Grow Anywhere every steps

pub value_grows : (e : Expression) → Grows (value e)
value_grows = all.expressions Grow reads

pub chain_grows : (us : List Operand) (v : Value) → Grows (chained operate (map operand_value us) v)
chain_grows us v = all.chains Grow Anywhere every reads (map operand_value us) v (all.all_operands Grow reads us)

pub values_grow : (es : List Expression) → Grows (values es)
values_grow = all.all_values Grow reads

pub returned_grows : (r : Option Return) → Grows (returned r)
returned_grows = all.all_returned Grow reads

pub right_grows : (tid : Tid) (call : ℕ → List Value → M (Option Value)) → ((m : ℕ) (vs : List Value) → Grows (call m vs)) → (x : Right) → Grows (right tid call x)
right_grows = all.all_rights Grow steps

pub calls_grow : (program : Resolved) (tid : Tid) (depth m : ℕ) (vs : List Value) → Grows (called program tid depth m vs)
calls_grow = all.all_calls Grow steps
