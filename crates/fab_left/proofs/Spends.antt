-- Fuel never rises, whatever is done, so a loop may be given any number of turns that is no less than the fuel.
use Rattle.std.proofs.Common.{◌≡◌, ℕ, zero, suc, ◌-◌, ◌<◌, ◌≤◌, List, [], ◌∷◌, Option, Some, None, Bool, true, false, cond, ◌==◌, refl, ◌∙◌, arith, ⊎_elim}
use Rattle.std.proofs.lemmas.Bool.Decides.{eqb_tells}
use Rattle.fab_base.specs.declared.object.Oid.{Oid}
use Rattle.fab_base.specs.declared.object.Tid.{Tid}
use Rattle.fab_base.specs.declared.object.Value.{Value}
use Rattle.fab_base.specs.declared.object.Value.TheVariants.{Ref}
use Rattle.fab_base.specs.declared.object.Stop.TheVariants.{Fuel}
use Rattle.fab_language.specs.Heaps.{Heap, Reach, gone, full, found, reach, replaced, created}
use Rattle.fab_language.specs.Meaning.{State, failed, stopped, missing, Run, goes, ends, M, and_then, gives, ◌>>=◌, ◌>>◌, charge, reached, access, field_of, with_field}
use Rattle.fab_language.specs.Meaning.{settled, replace, next_name, create, holds, turns, loop, or_else, back_with}
use Rattle.fab_laws.specs.Runs.{state_behind}
use Rattle.fab_laws.proofs.Everywhere.{OfSteps}
use Rattle.fab_erasure.specs.Erased as erase
use Rattle.fab_erasure.proofs.Everywhere.{OfErased}

pub record Spends {A : Type 0} (m : M A) : Type 0 where
  pub by : (t : State) → (state_behind (m t)).fuel ≤ t.fuel

-- nothing is spent
level : {A : Type 0} (m : M A) → ((t : State) → (state_behind (m t)).fuel ≡ t.fuel) → Spends m
level m h = record { by = λ t. let e = h t in omega arith }

run_then : {A B : Type 0} (k : ℕ) (r : Run A) (f : A → M B) → (state_behind r).fuel ≤ k → ((a : A) → Spends (f a)) → (state_behind (and_then r f)).fuel ≤ k
run_then k (goes a t) f h g = let e = (g a).by t in omega arith
run_then k (ends e t) f h g = h

bind : {A B : Type 0} (m : M A) (f : A → M B) → Spends m → ((a : A) → Spends (f a)) → Spends (m >>= f)
bind m f h g = record { by = λ t. run_then t.fuel (m t) f (h.by t) g }

by_charge : (b : Bool) (t : State) → (state_behind {A = Unit {0}} (cond b (ends (stopped Fuel) t) (goes tt (record t { fuel = t.fuel - 1 })))).fuel ≤ t.fuel
by_charge true t = omega arith
by_charge false t = omega arith

by_reached : (r : Reach) (site : ℕ) (o : Oid) (t : State) → (state_behind (reached site o r t)).fuel ≡ t.fuel
by_reached gone site o t = refl
by_reached full site o t = refl
by_reached (found x touches) site o t = refl

by_settled : (h : Option Heap) (t : State) → (state_behind (settled h t)).fuel ≡ t.fuel
by_settled None t = refl
by_settled (Some h) t = refl

accesses : (site : ℕ) (o : Oid) → Spends (access site o)
accesses site o = level _ (λ t. by_reached (reach site o t.heap t.touches) site o t)

creates : (tid : Tid) (store class site : ℕ) (vs : List Value) → Spends (create tid store class site vs)
creates tid store class site vs = record {
  by = λ t.
      let o = next_name tid store class site t.heap in
      let h = created o (record { class = o.class; fields = vs }) t.heap in
      let e = by_settled h t in
      run_then t.fuel (settled h t) (λ _. gives (Ref o)) (omega arith) (λ _. level _ (λ u. refl));
}

by_else : (k : ℕ) (t : State) (r : Run (Unit {0})) (other : M (Unit {0})) → (state_behind r).fuel ≤ k → Spends other → (state_behind (or_else t r other)).fuel ≤ k
by_else k t (goes a u) other h g = h
by_else k t (ends failed u) other h g = let e = g.by (record u { locals = t.locals; heap = t.heap }) in omega arith
by_else k t (ends (stopped stop) u) other h g = h
by_else k t (ends (missing site o) u) other h g = h

by_back : {A : Type 0} (k : ℕ) (locals : List Value) (r : Run A) → (state_behind r).fuel ≤ k → (state_behind (back_with locals r)).fuel ≤ k
by_back k locals (goes a t) h = h
by_back k locals (ends e t) h = h

by_taken : (blank : Value) (vs : List Value) (t : State) → (state_behind (erase.taken blank vs t)).fuel ≡ t.fuel
by_taken blank [] t = refl
by_taken blank (v ∷ vs) t = refl

abbrev pub Spend : (A : Type 0) → M A → Type 0
Spend A m = Spends {A = A} m

module _ (Spot : ℕ → Type 0) (shows : ℕ → Bool) where
  pub steps : OfSteps Spend Spot shows
  steps = record {
    reads = record {
      given = λ a. level _ (λ t. refl);
      bound = λ m g h k. bind m g h k;
      fell = level _ (λ t. refl);
      named = λ x. level _ (λ t. refl);
      got = λ site field o at show. bind (access site o) (λ x. gives (field_of field x)) (accesses site o) (λ x. level _ (λ t. refl));
    };
    halted = λ stop. level _ (λ t. refl);
    charged = record { by = λ t. by_charge (t.fuel == 0) t };
    assigned = λ x v. level _ (λ t. refl);
    wrote = λ site field v o at show.
        bind (access site o) (λ x. replace o (with_field field v x)) (accesses site o) (λ x. level _ (λ t. by_settled (replaced o (with_field field v x) t.heap) t));
    made = λ tid store class site vs at. creates tid store class site vs;
    downed = λ site v. level _ (λ t. refl);
    looped = λ test body h. record { by = λ t. (h t.fuel).by t };
    tried = λ body other h k. record { by = λ t. by_else t.fuel t (body t) other (h.by t) k };
    inside = λ locals m h. record { by = λ t. by_back t.fuel t.locals (m (record t { locals = locals })) (h.by (record t { locals = locals })) };
  }

  pub erased_steps : OfErased Spend Spot shows
  erased_steps = record { steps = steps; took = λ blank. level _ (λ t. by_taken blank t.given t) }

-- ---- loops

charge_none : (t : State) → t.fuel ≡ 0 → charge t ≡ ends (stopped Fuel) t
charge_none t e = rw e refl

after_charge : {B : Type 0} (t : State) (f g : M B) → ((u : State) → u.fuel < t.fuel → f u ≡ g u) → and_then (charge t) (λ _. f) ≡ and_then (charge t) (λ _. g)
after_charge t f g h =
    ⊎_elim (λ a. rw a.0 refl) (λ a. rw a.0 (h (record t { fuel = t.fuel - 1 }) (let ne = a.1 in omega arith))) (eqb_tells t.fuel 0)

after_run : {A B : Type 0} (k : ℕ) (r : Run A) (f g : A → M B) → (state_behind r).fuel ≤ k → ((a : A) (t : State) → t.fuel ≤ k → f a t ≡ g a t)
    → and_then r f ≡ and_then r g
after_run k (goes a t) f g le h = h a t le
after_run k (ends e t) f g le h = refl

choice_same : (b : Bool) (m n p : M (Unit {0})) (t : State) → m t ≡ n t → cond b m p t ≡ cond b n p t
choice_same true m n p t e = e
choice_same false m n p t e = refl

turns_same : (n m : ℕ) (test : M Value) (body : M (Unit {0})) (t : State) → Spends test → Spends body → t.fuel ≤ n → t.fuel ≤ m
    → turns n test body t ≡ turns m test body t
turns_same zero zero test body t g h le le' = refl
turns_same zero (suc m) test body t g h le le' = rw (charge_none t (omega arith)) refl
turns_same (suc n) zero test body t g h le le' = rw (charge_none t (omega arith)) refl
turns_same (suc n) (suc m) test body t g h le le' =
    after_charge t _ _ (λ u lt. after_run u.fuel (test u) _ _ (g.by u)
    (λ v w le1. choice_same (holds v) (body >> turns n test body) (body >> turns m test body) (gives tt) w
    (after_run w.fuel (body w) _ _ (h.by w) (λ _ x le2. turns_same n m test body x g h (omega arith) (omega arith)))))

-- a loop goes once round, and is the same loop again
pub loop_once : (test : M Value) (body : M (Unit {0})) (t : State) → Spends test → Spends body
    → loop test body t ≡ and_then (charge t) (λ _. test >>= λ v. cond (holds v) (body >> loop test body) (gives tt))
loop_once test body t g h = round t.fuel refl
  where
    round : (n : ℕ) → t.fuel ≡ n → loop test body t ≡ and_then (charge t) (λ _. test >>= λ v. cond (holds v) (body >> loop test body) (gives tt))
    round zero e = rw e refl
    round (suc n) e =
        turns_same t.fuel (suc n) test body t g h (omega arith) (omega arith)
        ∙ after_charge t _ _ (λ u lt. after_run u.fuel (test u) _ _ (g.by u)
        (λ v w le1. choice_same (holds v) (body >> turns n test body) (body >> loop test body) (gives tt) w
        (after_run w.fuel (body w) _ _ (h.by w) (λ _ x le2. turns_same n x.fuel test body x g h (omega arith) (omega arith)))))
