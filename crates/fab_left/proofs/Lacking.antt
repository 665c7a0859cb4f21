-- Where an object lacks, what was done at once has changed nothing but fuel, and noted touches behind those before.
use Rattle.std.proofs.Common.{◌≡◌, ℕ, ◌-◌, List, [], ◌∷◌, ◌++◌, length, take, Option, Some, None, Bool, true, false, ◌==◌, cond, if◌then◌else◌, refl, sym, ap, ◌∙◌}
use Rattle.std.proofs.Common.{subst, append_assoc, append-nil}
use Rattle.fab_base.specs.declared.object.Oid.{Oid}
use Rattle.fab_base.specs.declared.object.Object.{Object}
use Rattle.fab_base.specs.declared.object.Tid.{Tid}
use Rattle.fab_base.specs.declared.object.Value.{Value}
use Rattle.fab_base.specs.declared.object.Value.TheVariants.{Int, Null, Ref}
use Rattle.fab_base.specs.declared.object.Stop.TheVariants.{Fuel}
use Rattle.fab_base.specs.FlatMap.{get}
use Rattle.fab_tree.specs.declared.resolved.Expression.{Expression}
use Rattle.fab_tree.specs.declared.resolved.Return.{Return}
use Rattle.fab_tree.specs.declared.resolved.Right.{Right}
use Rattle.fab_tree.specs.declared.resolved.Right.TheVariants as rights
use Rattle.fab_tree.specs.declared.resolved.Statement.{Statement, out-Statement}
use Rattle.fab_tree.specs.declared.resolved.Statement.TheOpen as form
use Rattle.fab_language.specs.Heaps.{Heap, full, found, reach_in, reach_before, is_among, is_full, touched, noted, replaced, created}
use Rattle.fab_language.specs.Meaning.{State, failed, stopped, missing, Run, goes, ends, M, and_then, gives, ◌>>=◌, ◌>>◌, charge, local, reached, access, field_of}
use Rattle.fab_language.specs.Meaning.{with_field, read, settled, replace, write, next_name, create, noted_down, value, values, returned}
use Rattle.fab_laws.proofs.Names.{noted_front}
use Rattle.fab_laws.proofs.Everywhere as all
use Rattle.fab_laws.proofs.Everywhere.{OfReads, Anywhere, every}
use Rattle.fab_left.specs.Left.{DiffersLittle, before}
use Rattle.fab_left.specs.Deeds.{passed}
use Rattle.fab_left.specs.Acts.{taken, right_act, work, act}

-- where a run lacks an object, its state waits; and so it does where it goes on
abbrev pub Lacks : {A : Type 0} → State → Run A → Type 0
Lacks t (goes a u) = Unit {0}
Lacks t (ends failed u) = Unit {0}
Lacks t (ends (stopped stop) u) = Unit {0}
Lacks t (ends (missing site o) u) = DiffersLittle t u

abbrev pub QuietRun : {A : Type 0} → State → Run A → Type 0
QuietRun t (goes a u) = DiffersLittle t u
QuietRun t (ends failed u) = Unit {0}
QuietRun t (ends (stopped stop) u) = Unit {0}
QuietRun t (ends (missing site o) u) = DiffersLittle t u

pub record Quiet {A : Type 0} (m : M A) : Type 0 where
  pub by : (t : State) → QuietRun t (m t)

pub waits : (t : State) → DiffersLittle t t
waits t = record { locals = refl; heap = refl; touches = ([], sym (append-nil t.touches)); downs = refl; given = refl }

waits_on : (t u w : State) → DiffersLittle t u → DiffersLittle u w → DiffersLittle t w
waits_on t u w h k = record {
  locals = k.locals ∙ h.locals;
  heap = k.heap ∙ h.heap;
  touches = (h.touches.0 ++ k.touches.0, k.touches.1 ∙ ap (λ l. l ++ k.touches.0) h.touches.1 ∙ append_assoc t.touches h.touches.0 k.touches.0);
  downs = k.downs ∙ h.downs;
  given = k.given ∙ h.given;
}

lacks_on : {A : Type 0} (t u : State) (r : Run A) → DiffersLittle t u → Lacks u r → Lacks t r
lacks_on t u (goes a w) h k = tt
lacks_on t u (ends failed w) h k = tt
lacks_on t u (ends (stopped stop) w) h k = tt
lacks_on t u (ends (missing site o) w) h k = waits_on t u w h k

quiet_on : {A : Type 0} (t u : State) (r : Run A) → DiffersLittle t u → QuietRun u r → QuietRun t r
quiet_on t u (goes a w) h k = waits_on t u w h k
quiet_on t u (ends failed w) h k = tt
quiet_on t u (ends (stopped stop) w) h k = tt
quiet_on t u (ends (missing site o) w) h k = waits_on t u w h k

quiet_then : {A B : Type 0} (t : State) (r : Run A) (f : A → M B) → QuietRun t r → ((a : A) → Quiet (f a)) → QuietRun t (and_then r f)
quiet_then t (goes a u) f h k = quiet_on t u (f a u) h ((k a).by u)
quiet_then t (ends failed u) f h k = tt
quiet_then t (ends (stopped stop) u) f h k = tt
quiet_then t (ends (missing site o) u) f h k = h

pub quiet_bind : {A B : Type 0} (m : M A) (f : A → M B) → Quiet m → ((a : A) → Quiet (f a)) → Quiet (m >>= f)
quiet_bind m f h k = record { by = λ t. quiet_then t (m t) f (h.by t) k }

pub quiet_given : {A : Type 0} (a : A) → Quiet (gives a)
quiet_given a = record { by = λ t. waits t }

pub quiet_failed : {A : Type 0} → Quiet {A = A} (ends failed)
quiet_failed = record { by = λ t. tt }

pub quiet_local : (x : ℕ) → Quiet (local x)
quiet_local x = record { by = λ t. waits t }

quiet_charge : Quiet charge
quiet_charge = record { by = λ t. step (t.fuel == 0) t }
  where
    step : (b : Bool) (t : State) → QuietRun {A = Unit {0}} t (cond b (ends (stopped Fuel) t) (goes tt (record t { fuel = t.fuel - 1 })))
    step true t = tt
    step false t = record { locals = refl; heap = refl; touches = ([], sym (append-nil t.touches)); downs = refl; given = refl }

quiet_access : (site : ℕ) (o : Oid) → Quiet (access site o)
quiet_access site o = record { by = λ t. at_row (get t.heap.rows o) t }
  where
    at_full : (b : Bool) (y : Object) (t : State) → QuietRun t (reached site o (if b then full else found y (noted site o t.touches)) t)
    at_full true y t = tt
    at_full false y t = record { locals = refl; heap = refl; touches = noted_front site o t.touches; downs = refl; given = refl }

    at_made : (b : Bool) (y : Object) (t : State) → QuietRun t (reached site o (if b then found y t.touches else reach_before site o y t.touches) t)
    at_made true y t = waits t
    at_made false y t = at_full (is_full o (touched t.touches)) y t

    at_row : (v : Option Object) (t : State) → QuietRun t (reached site o (reach_in site o v t.heap.made t.touches) t)
    at_row None t = waits t
    at_row (Some y) t = at_made (is_among o t.heap.made) y t

quiet_read : (site field : ℕ) (o : Oid) → Quiet (read site field (Ref o))
quiet_read site field o = quiet_bind (access site o) (λ x. gives (field_of field x)) (quiet_access site o) (λ x. quiet_given (field_of field x))

abbrev pub Still : (A : Type 0) → M A → Type 0
Still A m = Quiet {A = A} m

pub reads : (shows : ℕ → Bool) → OfReads Still Anywhere shows
reads shows = record {
  given = λ a. quiet_given a;
  bound = λ m g h k. quiet_bind m g h k;
  fell = quiet_failed;
  named = quiet_local;
  got = λ site field o at show. quiet_read site field o;
}

pub quiet_value : (e : Expression) → Quiet (value e)
quiet_value e = all.expressions Still (reads every) e

pub quiet_values : (es : List Expression) → Quiet (values es)
quiet_values es = all.all_values Still (reads every) es

pub quiet_returned : (r : Option Return) → Quiet (returned r)
quiet_returned r = all.all_returned Still (reads every) r

-- ---- what is done behind that

-- after something quiet, where an object may lack
pub lacks_then : {A B : Type 0} (t : State) (r : Run A) (f : A → M B) → QuietRun t r → ((a : A) (u : State) → Lacks u (f a u)) → Lacks t (and_then r f)
lacks_then t (goes a u) f h k = lacks_on t u (f a u) h (k a u)
lacks_then t (ends failed u) f h k = tt
lacks_then t (ends (stopped stop) u) f h k = tt
lacks_then t (ends (missing site o) u) f h k = h

-- what lacks no object whatever was before
abbrev pub Never : {A : Type 0} → Run A → Type 0
Never (goes a u) = Unit {0}
Never (ends failed u) = Unit {0}
Never (ends (stopped stop) u) = Unit {0}
Never (ends (missing site o) u) = ⊥

pub as_lacking : {A : Type 0} (t : State) (r : Run A) → Never r → Lacks t r
as_lacking t (goes b w) n = tt
as_lacking t (ends failed w) n = tt
as_lacking t (ends (stopped stop) w) n = tt
as_lacking t (ends (missing site o) w) n = absurd n

-- behind what may have lacked an object nothing lacks one
pub lacks_more : {A B : Type 0} (t : State) (r : Run A) (f : A → M B) → Lacks t r → ((a : A) (u : State) → Never (f a u)) → Lacks t (and_then r f)
lacks_more t (goes a u) f h k = as_lacking t (f a u) (k a u)
lacks_more t (ends failed u) f h k = tt
lacks_more t (ends (stopped stop) u) f h k = tt
lacks_more t (ends (missing site o) u) f h k = h

pub never_then : {A B : Type 0} (r : Run A) (f : A → M B) → Never r → ((a : A) (u : State) → Never (f a u)) → Never (and_then r f)
never_then (goes a u) f h k = k a u
never_then (ends failed u) f h k = tt
never_then (ends (stopped stop) u) f h k = tt
never_then (ends (missing site o) u) f h k = h

pub never_settled : (h : Option Heap) (t : State) → Never (settled h t)
never_settled None t = tt
never_settled (Some h) t = tt

pub never_made : (tid : Tid) (store class site : ℕ) (vs : List Value) (t : State) → Never (create tid store class site vs t)
never_made tid store class site vs t =
    let o = next_name tid store class site t.heap in
    let h = created o (record { class = o.class; fields = vs }) t.heap in
    never_then (settled h t) (λ _. gives (Ref o)) (never_settled h t) (λ a u. tt)

pub lacks_write_one : (site field : ℕ) (v : Value) (o : Oid) (t : State) → Lacks t (write site field v (Ref o) t)
lacks_write_one site field v o t =
    lacks_then t (access site o t) (λ x. replace o (with_field field v x)) ((quiet_access site o).by t)
    (λ x u. as_lacking u (replace o (with_field field v x) u) (never_settled (replaced o (with_field field v x) u.heap) u))

lacks_write : (site field : ℕ) (v w : Value) (t : State) → Lacks t (write site field v w t)
lacks_write site field v (Int n) t = tt
lacks_write site field v Null t = tt
lacks_write site field v (Ref o) t = lacks_write_one site field v o t

lacks_right : (tid : Tid) (x : ℕ) (y : Right) (t : State) → Lacks t (right_act tid x y t)
lacks_right tid x (rights.Plain e) t = lacks_then t (value e t) (taken x) ((quiet_value e).by t) (λ v u. tt)
lacks_right tid x (rights.Call n args) t = lacks_then t (values args t) _ ((quiet_values args).by t) (λ vs u. tt)
lacks_right tid x (rights.New class store args site at) t =
    lacks_then t (values args t) _ ((quiet_values args).by t) (λ vs u.
    as_lacking u (and_then (create tid store.number class.number site vs u) (taken x))
    (never_then (create tid store.number class.number site vs u) (taken x) (never_made tid store.number class.number site vs u) (λ v w. tt)))
lacks_right tid x (rights.Downgrade downgrade e from to site at) t =
    lacks_more t (and_then (value e t) (noted_down site)) (taken x) (lacks_then t (value e t) (noted_down site) ((quiet_value e).by t) (λ v u. tt)) (λ v u. tt)

lacks_work : (tid : Tid) (y : form.Statement-F Statement) (t : State) → Lacks t (work tid y t)
lacks_work tid (form.Assign x r at) t = lacks_right tid x r t
lacks_work tid (form.Write x field e site) t =
    lacks_then t (value e t) _ ((quiet_value e).by t) (λ v u.
    lacks_then u (local x.number u) (λ o. write site field v o >> gives passed) ((quiet_local x.number).by u) (λ o w.
    lacks_more w (write site field v o w) (λ _. gives passed) (lacks_write site field v o w) (λ a z. tt)))
lacks_work tid (form.Call n args) t = lacks_then t (values args t) _ ((quiet_values args).by t) (λ vs u. tt)
lacks_work tid (form.If e a b) t = lacks_then t (value e t) _ ((quiet_value e).by t) (λ v u. tt)
lacks_work tid (form.While e a) t = lacks_then t (value e t) _ ((quiet_value e).by t) (λ v u. tt)
lacks_work tid (form.Atomic label a b at) t = tt
lacks_work tid (form.Fail at) t = tt

pub lacks_charged : {A : Type 0} (m : M A) → ((t : State) → Lacks t (m t)) → (t : State) → Lacks t (and_then (charge t) (λ _. m))
lacks_charged m h t = lacks_then t (charge t) (λ _. m) (quiet_charge.by t) (λ _ u. h u)

lacks_act : (tid : Tid) (s : Statement) (t : State) → Lacks t (act tid s t)
lacks_act tid s t = lacks_charged (work tid (out-Statement s)) (lacks_work tid (out-Statement s)) t

pub lacks_quiet : {A : Type 0} (t : State) (r : Run A) → QuietRun t r → Lacks t r
lacks_quiet t (goes a u) h = tt
lacks_quiet t (ends failed u) h = tt
lacks_quiet t (ends (stopped stop) u) h = tt
lacks_quiet t (ends (missing site o) u) h = h

-- ---- the laws' forms

pub misses : {A : Type 0} (t u : State) (r : Run A) (site : ℕ) (o : Oid) → Lacks t r → r ≡ ends (missing site o) u → DiffersLittle t u
misses t u r site o h e = subst (Lacks t) e h

take_front : (xs ys : List (ℕ × Oid)) → take (length xs) (xs ++ ys) ≡ xs
take_front [] [] = refl
take_front [] (y ∷ ys) = refl
take_front (x ∷ xs) ys = ap (λ l. x ∷ l) (take_front xs ys)

pub put_back : (t u : State) → DiffersLittle t u → before t.fuel (length t.touches) u ≡ t
put_back t u w =
    let q : take (length t.touches) u.touches ≡ t.touches = ap (take (length t.touches)) w.touches.1 ∙ take_front t.touches w.touches.0 in
    λ k. record { fuel = t.fuel; locals = w.locals k; heap = w.heap k; touches = q k; downs = w.downs k; given = w.given k }

pub act_misses : (tid : Tid) (s : Statement) (t : State) (site : ℕ) (o : Oid) (u : State) → act tid s t ≡ ends (missing site o) u → DiffersLittle t u
act_misses tid s t site o u e = misses t u (act tid s t) site o (lacks_act tid s t) e

pub returned_misses : (r : Option Return) (t : State) (site : ℕ) (o : Oid) (u : State) → returned r t ≡ ends (missing site o) u → DiffersLittle t u
returned_misses r t site o u e = misses t u (returned r t) site o (lacks_quiet t (returned r t) ((quiet_returned r).by t)) e
