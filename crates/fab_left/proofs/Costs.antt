-- A statement costs 1 for what it does at once, however that ends, and a method's result costs nothing.
use Rattle.std.proofs.Common.{◌≡◌, ℕ, ◌-◌, List, [], ◌∷◌, Option, Some, None, Bool, true, false, ◌==◌, cond, if◌then◌else◌, refl, ◌∙◌, arith}
use Rattle.std.proofs.lemmas.Bool.{eqb-true}
use Rattle.std.specs.Prelude.{slice_get}
use Rattle.std.specs.List.{flat_map}
use Rattle.fab_base.specs.declared.object.Oid.{Oid}
use Rattle.fab_base.specs.declared.object.Tid.{Tid}
use Rattle.fab_base.specs.declared.object.Value.{Value}
use Rattle.fab_base.specs.declared.object.Value.TheVariants.{Null, Ref}
use Rattle.fab_base.specs.declared.object.Stop.TheVariants.{Fuel}
use Rattle.fab_base.specs.Values.{referred}
use Rattle.fab_tree.specs.declared.resolved.Class.{Class}
use Rattle.fab_tree.specs.declared.resolved.Local.{Local}
use Rattle.fab_tree.specs.declared.resolved.Expression.{Expression}
use Rattle.fab_tree.specs.declared.resolved.Return.{Return}
use Rattle.fab_tree.specs.declared.resolved.Returns.{Returns}
use Rattle.fab_tree.specs.declared.resolved.Right.{Right}
use Rattle.fab_tree.specs.declared.resolved.Right.TheVariants as rights
use Rattle.fab_tree.specs.declared.resolved.Statement.{Statement, out-Statement}
use Rattle.fab_tree.specs.declared.resolved.Statement.TheOpen as form
use Rattle.fab_labelling.specs.Sites.{sites_in, return_sites}
use Rattle.fab_language.specs.Heaps.{Heap, Reach, gone, full, found, reach, replaced, created}
use Rattle.fab_language.specs.Meaning.{State, stopped, Run, goes, ends, M, and_then, gives, ◌>>=◌, ◌>>◌, charge, local, reached, access, field_of, with_field, led}
use Rattle.fab_language.specs.Meaning.{settled, replace, write, next_name}
use Rattle.fab_language.specs.Meaning.{create, noted_down, value, values, returned}
use Rattle.fab_laws.specs.Runs.{state_behind}
use Rattle.fab_laws.proofs.Everywhere as all
use Rattle.fab_laws.proofs.Everywhere.{OfReads, Anywhere, every}
use Rattle.fab_laws.proofs.Values.{all_any}
use Rattle.fab_erasure.specs.Erased as erase
use Rattle.fab_erasure.proofs.Everywhere as everywhere
use Rattle.fab_left.specs.Deeds.{Deed, passed}
use Rattle.fab_left.specs.Acts.{taken, right_act, work, act}
use Rattle.fab_left.specs.ErasedActs as erased

-- however it ends, the fuel is what it was
pub record Level {A : Type 0} (m : M A) : Type 0 where
  pub by : (t : State) → (state_behind (m t)).fuel ≡ t.fuel

same : {A : Type 0} (m : M A) → ((t : State) → (state_behind (m t)).fuel ≡ t.fuel) → Level m
same m h = record { by = h }

run_then : {A B : Type 0} (k : ℕ) (r : Run A) (f : A → M B) → (state_behind r).fuel ≡ k → ((a : A) → Level (f a)) → (state_behind (and_then r f)).fuel ≡ k
run_then k (goes a t) f h g = (g a).by t ∙ h
run_then k (ends e t) f h g = h

bind : {A B : Type 0} (m : M A) (f : A → M B) → Level m → ((a : A) → Level (f a)) → Level (m >>= f)
bind m f h g = record { by = λ t. run_then t.fuel (m t) f (h.by t) g }

then_ : {A B : Type 0} (m : M A) (n : M B) → Level m → Level n → Level (m >> n)
then_ m n h k = bind m (λ _. n) h (λ _. k)

given : {A : Type 0} (a : A) → Level (gives a)
given a = same _ (λ t. refl)

by_reached : (r : Reach) (site : ℕ) (o : Oid) (t : State) → (state_behind (reached site o r t)).fuel ≡ t.fuel
by_reached gone site o t = refl
by_reached full site o t = refl
by_reached (found x touches) site o t = refl

by_settled : (h : Option Heap) (t : State) → (state_behind (settled h t)).fuel ≡ t.fuel
by_settled None t = refl
by_settled (Some h) t = refl

accesses : (site : ℕ) (o : Oid) → Level (access site o)
accesses site o = same _ (λ t. by_reached (reach site o t.heap t.touches) site o t)

writes_one : (site field : ℕ) (v : Value) (o : Oid) → Level (write site field v (Ref o))
writes_one site field v o =
    bind (access site o) (λ x. replace o (with_field field v x)) (accesses site o) (λ x. same _ (λ t. by_settled (replaced o (with_field field v x) t.heap) t))

leads : {A : Type 0} (o : Option Oid) (f : Oid → M A) → ((p : Oid) → Level (f p)) → Level (led o f)
leads None f k = same _ (λ t. refl)
leads (Some o) f k = k o

creates : (tid : Tid) (store class site : ℕ) (vs : List Value) → Level (create tid store class site vs)
creates tid store class site vs = record {
  by = λ t.
      let o = next_name tid store class site t.heap in
      let h = created o (record { class = o.class; fields = vs }) t.heap in
      run_then t.fuel (settled h t) (λ _. gives (Ref o)) (by_settled h t) (λ _. given (Ref o));
}

abbrev Flat : (A : Type 0) → M A → Type 0
Flat A m = Level {A = A} m

reads : (shows : ℕ → Bool) → OfReads Flat Anywhere shows
reads shows = record {
  given = λ a. given a;
  bound = λ m g h k. bind m g h k;
  fell = same _ (λ t. refl);
  named = λ x. same _ (λ t. refl);
  got = λ site field o at show. bind (access site o) (λ x. gives (field_of field x)) (accesses site o) (λ x. given (field_of field x));
}

-- what is charged costs 1
abbrev paid : (b : Bool) (t : State) → Run (Unit {0})
paid b t = cond b (ends (stopped Fuel) t) (goes tt (record t { fuel = t.fuel - 1 }))

charged : {A : Type 0} (m : M A) → Level m → (t : State) → (state_behind (and_then (charge t) (λ _. m))).fuel ≡ t.fuel - 1
charged m h t = by (t.fuel == 0) refl
  where
    by : (b : Bool) → (t.fuel == 0) ≡ b → (state_behind (and_then (paid b t) (λ _. m))).fuel ≡ t.fuel - 1
    by true e = let z : t.fuel ≡ 0 = eqb-true t.fuel 0 e in omega arith
    by false e = h.by (record t { fuel = t.fuel - 1 })

uncharged : {A : Type 0} (m : M A) (t : State) → t.fuel ≡ 0 → and_then (charge t) (λ _. m) ≡ ends (stopped Fuel) t
uncharged m t e = rw e refl

-- ---- the meaning

value_level : (e : Expression) → Level (value e)
value_level e = all.expressions Flat (reads every) e

values_level : (es : List Expression) → Level (values es)
values_level es = all.all_values Flat (reads every) es

pub returned_level : (r : Option Return) → Level (returned r)
returned_level r = all.all_returned Flat (reads every) r

takes : (x : ℕ) (v : Value) → Level (taken x v)
takes x v = same _ (λ t. refl)

rights_level : (tid : Tid) (x : ℕ) (y : Right) → Level (right_act tid x y)
rights_level tid x (rights.Plain e) = bind (value e) (taken x) (value_level e) (takes x)
rights_level tid x (rights.Call n args) = bind (values args) _ (values_level args) (λ vs. given _)
rights_level tid x (rights.New class store args site at) = bind (values args) _ (values_level args)
    (λ vs. bind (create tid store.number class.number site vs) (taken x) (creates tid store.number class.number site vs) (takes x))
rights_level tid x (rights.Downgrade downgrade e from to site at) =
    bind (value e >>= noted_down site) (taken x) (bind (value e) (noted_down site) (value_level e) (λ v. same _ (λ t. refl))) (takes x)

works : (tid : Tid) (y : form.Statement-F Statement) → Level (work tid y)
works tid (form.Assign x r at) = rights_level tid x r
works tid (form.Write x field e site) = bind (value e) _ (value_level e)
    (λ v. bind (local x.number) _ (same _ (λ t. refl))
    (λ o. then_ (write site field v o) (gives passed) (leads (referred o) _ (λ p. writes_one site field v p)) (given passed)))
works tid (form.Call n args) = bind (values args) _ (values_level args) (λ vs. given _)
works tid (form.If e a b) = bind (value e) _ (value_level e) (λ v. given _)
works tid (form.While e a) = bind (value e) _ (value_level e) (λ v. given _)
works tid (form.Atomic label a b at) = given _
works tid (form.Fail at) = same _ (λ t. refl)

pub act_costs : (tid : Tid) (s : Statement) (t : State) → (state_behind (act tid s t)).fuel ≡ t.fuel - 1
act_costs tid s t = charged (work tid (out-Statement s)) (works tid (out-Statement s)) t

pub act_starves : (tid : Tid) (s : Statement) (t : State) → t.fuel ≡ 0 → act tid s t ≡ ends (stopped Fuel) t
act_starves tid s t e = uncharged (work tid (out-Statement s)) t e

-- ---- the erased meaning

module _ (sees shows : ℕ → Bool) (classes : List Class) (ls : List Local) where
  erased_value : (e : Expression) → Level (erase.value sees shows classes ls e)
  erased_value e = (everywhere.expressions Flat Anywhere sees shows (reads shows) classes ls e).by (all_any (sites_in e))

  erased_values : (es : List Expression) → Level (erase.values sees shows classes ls es)
  erased_values es = everywhere.all_values Flat Anywhere sees shows (reads shows) classes ls es (all_any (flat_map sites_in es))

  pub erased_returned : (returns : Option Returns) (r : Option Return) → Level (erase.returned sees shows classes ls returns r)
  erased_returned returns r = everywhere.all_returned Flat Anywhere sees shows (reads shows) classes ls returns r (all_any (return_sites r))

  choice : {A : Type 0} (b : Bool) (m n : M A) → Level m → Level n → Level (cond b m n)
  choice true m n h k = h
  choice false m n h k = k

  by_taken : (blank : Value) (vs : List Value) (t : State) → (state_behind (erase.taken blank vs t)).fuel ≡ t.fuel
  by_taken blank [] t = refl
  by_taken blank (v ∷ vs) t = refl

  downgrades : (blank : Value) (from to : ℕ) (v : Value) → Level (erase.downgraded sees shows classes ls blank from to v)
  downgrades blank from to v =
      choice (sees from) (gives v) (if sees to then erase.take_given blank else gives Null) (given v)
      (choice (sees to) (erase.take_given blank) (gives Null) (same _ (λ t. by_taken blank t.given t)) (given Null))

  module _ (tid : Tid) where
    abbrev take : ℕ → Value → M Deed
    take = erased.taken sees shows classes ls tid

    erased_takes : (x : ℕ) (v : Value) → Level (take x v)
    erased_takes x v = same _ (λ t. refl)

    erased_rights : (x : ℕ) (y : Right) → Level (erased.right_act sees shows classes ls tid x y)
    erased_rights x (rights.Plain e) = bind (erase.value sees shows classes ls e) (take x) (erased_value e) (erased_takes x)
    erased_rights x (rights.Call n args) = bind (erase.values sees shows classes ls args) _ (erased_values args) (λ vs. given _)
    erased_rights x (rights.New class store args site at) = bind (erase.values sees shows classes ls args) _ (erased_values args)
        (λ vs. bind (create tid store.number class.number site (erase.fields_shown sees shows class.number vs)) (take x)
        (creates tid store.number class.number site (erase.fields_shown sees shows class.number vs)) (erased_takes x))
    erased_rights x (rights.Downgrade downgrade e from to site at) =
        let blank = erase.blank_of sees shows classes ls (slice_get ls x) in
        bind (erase.value sees shows classes ls e) _ (erased_value e)
        (λ v. bind (erase.downgraded sees shows classes ls blank from.number to.number v >>= noted_down site) (take x)
        (bind (erase.downgraded sees shows classes ls blank from.number to.number v) (noted_down site) (downgrades blank from.number to.number v)
        (λ w. same _ (λ t. refl)))
        (erased_takes x))

    erased_works : (y : form.Statement-F Statement) → Level (erased.work sees shows classes ls tid y)
    erased_works (form.Assign x r at) = erased_rights x r
    erased_works (form.Write x field e site) = bind (erase.value sees shows classes ls e) _ (erased_value e)
        (λ v. bind (local x.number) _ (same _ (λ t. refl))
        (λ o. then_ (erase.write_shown sees shows site field v o) (gives passed)
        (leads (referred o) _ (λ p. choice (shows p.class) (write site field v (Ref p)) (gives tt) (writes_one site field v p) (given tt))) (given passed)))
    erased_works (form.Call n args) = bind (erase.values sees shows classes ls args) _ (erased_values args) (λ vs. given _)
    erased_works (form.If e a b) = bind (erase.value sees shows classes ls e) _ (erased_value e) (λ v. given _)
    erased_works (form.While e a) = bind (erase.value sees shows classes ls e) _ (erased_value e) (λ v. given _)
    erased_works (form.Atomic label a b at) = given _
    erased_works (form.Fail at) = same _ (λ t. refl)

    pub erased_costs : (s : Statement) (t : State) → (state_behind (erased.act sees shows classes ls tid s t)).fuel ≡ t.fuel - 1
    erased_costs s t = charged (erased.work sees shows classes ls tid (out-Statement s)) (erased_works (out-Statement s)) t

    pub erased_starves : (s : Statement) (t : State) → t.fuel ≡ 0 → erased.act sees shows classes ls tid s t ≡ ends (stopped Fuel) t
    erased_starves s t e = uncharged (erased.work sees shows classes ls tid (out-Statement s)) t e
