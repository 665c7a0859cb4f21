-- A statement is what it does at once, and then what that leads into.
use Rattle.std.proofs.Common.{◌≡◌, ℕ, List, Option, Some, None, Bool, true, false, cond, refl, sym, ap, ◌∙◌}
use Rattle.std.specs.Prelude.{slice_get, unwrap_or}
use Rattle.fab_base.specs.declared.object.Tid.{Tid}
use Rattle.fab_base.specs.declared.object.Value.{Value}
use Rattle.fab_base.specs.declared.object.Value.TheVariants.{Null}
use Rattle.fab_tree.specs.declared.resolved.Expression.{Expression}
use Rattle.fab_tree.specs.declared.resolved.Right.{Right}
use Rattle.fab_tree.specs.declared.resolved.Right.TheVariants as rights
use Rattle.fab_tree.specs.declared.resolved.Statement.{Statement, out-Statement, roll-out-Statement, map-Statement, fold-roll-Statement}
use Rattle.fab_tree.specs.declared.resolved.Statement.TheOpen as form
use Rattle.fab_tree.specs.declared.resolved.Resolved.{Resolved}
use Rattle.fab_language.specs.Meaning.{State, Run, goes, ends, M, and_then, gives, ◌>>=◌, ◌>>◌, charge, local, assign, write, create, noted_down, holds, value, values}
use Rattle.fab_language.specs.Meaning.{right, loop, statement, statement_step, called}
use Rattle.fab_laws.proofs.Everywhere as all
use Rattle.fab_laws.proofs.Everywhere.{OfSteps, Anywhere, every}
use Rattle.fab_left.specs.Left.{Place, Means, block, handed}
use Rattle.fab_left.specs.Deeds.{Deed, passed, into, again, entering, afterwards}
use Rattle.fab_left.specs.Acts.{meanings, taken, right_act, work, act}
use Rattle.fab_left.proofs.Spends.{Spends, Spend, steps, loop_once}

pub assoc : {A B C : Type 0} (r : Run A) (f : A → M B) (g : B → M C) → and_then (and_then r f) g ≡ and_then r (λ a u. and_then (f a u) g)
assoc (goes a t) f g = refl
assoc (ends e t) f g = refl

pub on : {A B : Type 0} (r : Run A) (f g : A → M B) → ((a : A) (t : State) → f a t ≡ g a t) → and_then r f ≡ and_then r g
on (goes a t) f g h = h a t
on (ends e t) f g h = refl

-- ---- whatever the parts of a program mean

module _ (m : Means) (p : Place) (s : Statement) where
  abbrev after : Deed → M (Unit {0})
  after = afterwards m p s

  pub tail : (r : Run (Unit {0})) → r ≡ and_then (and_then r (λ _. gives passed)) after
  tail (goes u t) = refl
  tail (ends e t) = refl

  -- a value that is assigned in some way
  pub takes_at : (put : Value → M (Unit {0})) (r : Run Value) → and_then r put ≡ and_then (and_then r (λ v. put v >> gives passed)) after
  takes_at put (goes v t) = tail (put v t)
  takes_at put (ends e t) = refl

  gave : (x : ℕ) (r : Run (Option Value)) → and_then (and_then r (λ v. gives (unwrap_or v Null))) (m.takes p x) ≡ and_then r (handed m p (Some x))
  gave x (goes v t) = refl
  gave x (ends e t) = refl

  gave_none : (r : Run (Option Value)) → and_then r (λ _. gives tt) ≡ and_then r (handed m p None)
  gave_none (goes v t) = refl
  gave_none (ends e t) = refl

  -- a call whose value goes to a local, and one whose value goes nowhere
  pub call_at : (x n : ℕ) (r : Run (List Value)) → and_then (and_then r (λ vs. m.call p n vs >>= λ v. gives (unwrap_or v Null))) (m.takes p x)
      ≡ and_then (and_then r (λ vs. gives (entering n vs (Some x)))) after
  call_at x n (goes vs t) = gave x (m.call p n vs t)
  call_at x n (ends e t) = refl

  pub call_none : (n : ℕ) (r : Run (List Value)) → and_then r (λ vs. m.call p n vs >> gives tt) ≡ and_then (and_then r (λ vs. gives (entering n vs None))) after
  call_none n (goes vs t) = gave_none (m.call p n vs t)
  call_none n (ends e t) = refl

  by_test : (b : Bool) (a o : List Statement) (t : State) → cond b (block m p a) (block m p o) t ≡ after (into (cond b a o)) t
  by_test true a o t = refl
  by_test false a o t = refl

  pub if_at : (a b : List Statement) (r : Run Value)
      → and_then r (λ v. cond (holds v) (block m p a) (block m p b)) ≡ and_then (and_then r (λ v. gives (into (cond (holds v) a b)))) after
  if_at a b (goes v t) = by_test (holds v) a b t
  if_at a b (ends e t) = refl

  by_turn : (b : Bool) (a : List Statement) (t : State) → cond b (block m p a >> m.statement p s) (gives tt) t ≡ after (cond b (again a) passed) t
  by_turn true a t = refl
  by_turn false a t = refl

  while_at : (a : List Statement) (r : Run Value)
      → and_then r (λ v. cond (holds v) (block m p a >> m.statement p s) (gives tt)) ≡ and_then (and_then r (λ v. gives (cond (holds v) (again a) passed))) after
  while_at a (goes v t) = by_turn (holds v) a t
  while_at a (ends e t) = refl

  -- a loop is the statement that it is again after a turn
  module _ (test : M Value) (a : List Statement) (is : (t : State) → loop test (block m p a) t ≡ m.statement p s t) where
    then_again : (r : Run (Unit {0})) → and_then r (λ _. loop test (block m p a)) ≡ and_then r (λ _. m.statement p s)
    then_again (goes u w) = is w
    then_again (ends x w) = refl

    by_cond : (b : Bool) (w : State) → cond b (block m p a >> loop test (block m p a)) (gives tt) w ≡ cond b (block m p a >> m.statement p s) (gives tt) w
    by_cond true w = then_again (block m p a w)
    by_cond false w = refl

    pub while_is : Spends test → Spends (block m p a) → (t : State)
        → loop test (block m p a) t ≡ and_then (charge t) (λ _ u. and_then (and_then (test u) (λ v. gives (cond (holds v) (again a) passed))) after)
    while_is g h t =
        loop_once test (block m p a) t g h
        ∙ on (charge t) (λ _ u. and_then (test u) (λ v. cond (holds v) (block m p a >> loop test (block m p a)) (gives tt)))
        (λ _ u. and_then (and_then (test u) (λ v. gives (cond (holds v) (again a) passed))) after)
        (λ _ u. on (test u) (λ v. cond (holds v) (block m p a >> loop test (block m p a)) (gives tt))
        (λ v. cond (holds v) (block m p a >> m.statement p s) (gives tt)) (λ v w. by_cond (holds v) w)
        ∙ while_at a (test u))

-- ---- the meaning

module _ (program : Resolved) (tid : Tid) (p : Place) where
  abbrev m : Means
  m = meanings program tid

  abbrev c : ℕ → List Value → M (Option Value)
  c = called program tid p.depth

  abbrev spends : OfSteps Spend Anywhere every
  spends = steps Anywhere every

  value_spends : (e : Expression) → Spends (value e)
  value_spends e = all.expressions Spend spends.reads e

  block_spends : (a : List Statement) → Spends (block m p a)
  block_spends a = all.blocks Spend spends tid c (all.all_calls Spend spends program tid p.depth) a

  right_at : (s : Statement) (x : ℕ) (y : Right) (t : State) → and_then (right tid c y t) (assign x) ≡ and_then (right_act tid x y t) (afterwards m p s)
  right_at s x (rights.Plain e) t = takes_at m p s (assign x) (value e t)
  right_at s x (rights.Call n args) t = call_at m p s x n.number (values args t)
  right_at s x (rights.New class store args site at) t =
      assoc (values args t) (create tid store.number class.number site) (assign x)
      ∙ on (values args t) (λ vs u. and_then (create tid store.number class.number site vs u) (assign x))
      (λ vs u. and_then (and_then (create tid store.number class.number site vs u) (taken x)) (afterwards m p s))
      (λ vs u. takes_at m p s (assign x) (create tid store.number class.number site vs u))
      ∙ sym (assoc (values args t) (λ vs. create tid store.number class.number site vs >>= taken x) (afterwards m p s))
  right_at s x (rights.Downgrade downgrade e from to site at) t = takes_at m p s (assign x) (and_then (value e t) (noted_down site))

  write_at : (s : Statement) (site field x : ℕ) (r : Run Value) → and_then r (λ v. local x >>= λ o. write site field v o)
      ≡ and_then (and_then r (λ v. local x >>= λ o. write site field v o >> gives passed)) (afterwards m p s)
  write_at s site field x (goes v t) = tail m p s (write site field v (unwrap_or (slice_get t.locals x) Null) t)
  write_at s site field x (ends e t) = refl

  abbrev step_of : form.Statement-F Statement → M (Unit {0})
  step_of y = statement_step tid c (map-Statement Statement (M (Unit {0})) (statement tid c) y)

  layer : (y : form.Statement-F Statement) (s : Statement) → ((t : State) → step_of y t ≡ m.statement p s t) → (t : State)
      → step_of y t ≡ and_then (charge t) (λ _ u. and_then (work tid y u) (afterwards m p s))
  layer (form.Assign x r at) s is t =
      on (charge t) (λ _ u. and_then (right tid c r u) (assign x)) (λ _ u. and_then (right_act tid x r u) (afterwards m p s)) (λ _ u. right_at s x r u)
  layer (form.Write x field e site) s is t =
      on (charge t) (λ _ u. and_then (value e u) (λ v. local x.number >>= λ o. write site field v o))
      (λ _ u. and_then (work tid (form.Write x field e site) u) (afterwards m p s))
      (λ _ u. write_at s site field x.number (value e u))
  layer (form.Call n args) s is t =
      on (charge t) (λ _ u. and_then (values args u) (λ vs. c n.number vs >> gives tt)) (λ _ u. and_then (work tid (form.Call n args) u) (afterwards m p s))
      (λ _ u. call_none m p s n.number (values args u))
  layer (form.If e a b) s is t =
      on (charge t) (λ _ u. and_then (value e u) (λ v. cond (holds v) (block m p a) (block m p b))) (λ _ u. and_then (work tid (form.If e a b) u) (afterwards m p s))
      (λ _ u. if_at m p s a b (value e u))
  layer (form.While e a) s is t = while_is m p s (value e) a is (value_spends e) (block_spends a) t
  layer (form.Atomic label a b at) s is t = refl
  layer (form.Fail at) s is t = refl

  pub statement_is : (s : Statement) (t : State) → m.statement p s t ≡ and_then (act tid s t) (afterwards m p s)
  statement_is s t = sym (opened t) ∙ layer (out-Statement s) s opened t ∙ sym (assoc (charge t) (λ _. work tid (out-Statement s)) (afterwards m p s))
    where
      opened : (u : State) → step_of (out-Statement s) u ≡ m.statement p s u
      opened u = ap (λ q. q u) (sym (fold-roll-Statement (M (Unit {0})) (statement_step tid c) (out-Statement s))) ∙ ap (λ x. statement tid c x u) (roll-out-Statement s)
