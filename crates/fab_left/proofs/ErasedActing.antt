-- What is done erased is, statement by statement, what is done at once, and then what that leads into.
use Rattle.std.proofs.Common.{◌≡◌, ℕ, List, [], Option, Bool, true, false, cond, refl, sym, ap, ◌∙◌}
use Rattle.std.specs.Prelude.{slice_get, unwrap_or}
use Rattle.fab_base.specs.declared.object.Tid.{Tid}
use Rattle.fab_base.specs.declared.object.Value.{Value}
use Rattle.fab_base.specs.declared.object.Value.TheVariants.{Null}
use Rattle.fab_tree.specs.declared.resolved.Class.{Class}
use Rattle.fab_tree.specs.declared.resolved.Local.{Local}
use Rattle.fab_tree.specs.declared.resolved.Expression.{Expression}
use Rattle.fab_tree.specs.declared.resolved.Right.{Right}
use Rattle.fab_tree.specs.declared.resolved.Right.TheVariants as rights
use Rattle.fab_tree.specs.declared.resolved.Statement.{Statement, out-Statement, roll-out-Statement, map-Statement, fold-roll-Statement}
use Rattle.fab_tree.specs.declared.resolved.Statement.TheOpen as form
use Rattle.fab_tree.specs.declared.resolved.Resolved.{Resolved}
use Rattle.fab_labelling.specs.Sites.{sites_in, block_sites, method_sites}
use Rattle.fab_language.specs.Meaning.{State, Run, goes, ends, M, and_then, gives, ◌>>=◌, ◌>>◌, charge, local, create, noted_down, holds, loop, atomically}
use Rattle.fab_laws.proofs.Everywhere.{Anywhere}
use Rattle.fab_laws.proofs.Values.{all_any}
use Rattle.fab_erasure.specs.Erased as erase
use Rattle.fab_erasure.proofs.Everywhere as everywhere
use Rattle.fab_erasure.proofs.Everywhere.{nowhere}
use Rattle.fab_left.specs.Left.{Place, Means, block}
use Rattle.fab_left.specs.Deeds.{Deed, passed, into, again, trying, afterwards}
use Rattle.fab_left.specs.ErasedActs as erased
use Rattle.fab_left.proofs.Spends.{Spends, Spend, steps, erased_steps}
use Rattle.fab_left.proofs.Acting.{assoc, on, tail, takes_at, call_at, call_none, if_at, while_is}

-- ---- whatever the parts of a program mean, with what isn't seen left out

module _ (m : Means) (p : Place) (s : Statement) where
  abbrev after : Deed → M (Unit {0})
  after = afterwards m p s

  none_at : (r : Run Value) → and_then r (λ v. gives tt) ≡ and_then (and_then r (λ v. gives passed)) after
  none_at (goes v t) = refl
  none_at (ends e t) = refl

  if_shown : (b : Bool) (a o : List Statement) (r : Run Value) → and_then r (λ v. cond b (cond (holds v) (block m p a) (block m p o)) (gives tt))
      ≡ and_then (and_then r (λ v. gives (cond b (into (cond (holds v) a o)) passed))) after
  if_shown true a o r = if_at m p s a o r
  if_shown false a o r = none_at r

  while_shown : (b : Bool) (test : M Value) (a : List Statement) → ((t : State) → cond b (loop test (block m p a)) (charge >> (test >> gives tt)) t ≡ m.statement p s t)
      → Spends test → Spends (block m p a) → (t : State) → cond b (loop test (block m p a)) (charge >> (test >> gives tt)) t
      ≡ and_then (charge t) (λ _ u. and_then (and_then (test u) (λ v. gives (cond b (cond (holds v) (again a) passed) passed))) after)
  while_shown true test a is g h t = while_is m p s test a is g h t
  while_shown false test a is g h t =
      on (charge t) (λ _ u. and_then (test u) (λ v. gives tt)) (λ _ u. and_then (and_then (test u) (λ v. gives passed)) after) (λ _ u. none_at (test u))

  atomic_shown : (b : Bool) (a o : List Statement) (t : State) → cond b (atomically (block m p a) (block m p o)) (gives tt) t ≡ after (cond b (trying a o) passed) t
  atomic_shown true a o t = refl
  atomic_shown false a o t = refl

-- ---- the erased meaning

module _ (sees shows : ℕ → Bool) (program : Resolved) (tid : Tid) (p : Place) where
  abbrev m : Means
  m = erased.meanings sees shows program tid

  abbrev c : ℕ → List Value → M (Option Value)
  c = erase.called sees shows program tid p.depth

  abbrev classes : List Class
  classes = program.classes

  abbrev ls : List Local
  ls = p.method.locals

  abbrev value : Expression → M Value
  value = erase.value sees shows classes ls

  abbrev values : List Expression → M (List Value)
  values = erase.values sees shows classes ls

  abbrev takes : ℕ → Value → M (Unit {0})
  takes = erased.assign_shown sees shows ls

  abbrev work : form.Statement-F Statement → M Deed
  work = erased.work sees shows classes ls tid

  value_spends : (e : Expression) → Spends (value e)
  value_spends e = (everywhere.expressions Spend Anywhere sees shows (steps Anywhere shows).reads classes ls e).by (all_any (sites_in e))

  calls_spend : (i : ℕ) (vs : List Value) → Spends (c i vs)
  calls_spend = everywhere.all_calls Spend Anywhere sees shows (erased_steps Anywhere shows) program tid (λ i x e. nowhere sees (method_sites program.classes x)) p.depth

  block_spends : (a : List Statement) → Spends (block m p a)
  block_spends a = (everywhere.blocks Spend Anywhere sees shows (erased_steps Anywhere shows) classes ls tid c calls_spend a).by [] refl
      (nowhere sees (block_sites classes ls a []))

  abbrev right_of : ℕ → Right → M Value
  right_of x y = erase.right sees shows classes ls tid c (erase.blank_of sees shows classes ls (slice_get ls x)) y

  right_at : (s : Statement) (x : ℕ) (y : Right) (t : State)
      → and_then (right_of x y t) (takes x) ≡ and_then (erased.right_act sees shows classes ls tid x y t) (afterwards m p s)
  right_at s x (rights.Plain e) t = takes_at m p s (takes x) (value e t)
  right_at s x (rights.Call n args) t = call_at m p s x n.number (values args t)
  right_at s x (rights.New class store args site at) t =
      let new : List Value → M Value = λ vs. create tid store.number class.number site (erase.fields_shown sees shows class.number vs) in
      assoc (values args t) new (takes x)
      ∙ on (values args t) (λ vs u. and_then (new vs u) (takes x)) (λ vs u. and_then (and_then (new vs u) (erased.taken sees shows classes ls tid x)) (afterwards m p s))
      (λ vs u. takes_at m p s (takes x) (new vs u))
      ∙ sym (assoc (values args t) (λ vs. new vs >>= erased.taken sees shows classes ls tid x) (afterwards m p s))
  right_at s x (rights.Downgrade downgrade e from to site at) t =
      let down : Value → M Value = λ v. erase.downgraded sees shows classes ls
      (erase.blank_of sees shows classes ls (slice_get ls x)) from.number to.number v >>= noted_down site in
      assoc (value e t) down (takes x)
      ∙ on (value e t) (λ v u. and_then (down v u) (takes x)) (λ v u. and_then (and_then (down v u) (erased.taken sees shows classes ls tid x)) (afterwards m p s))
      (λ v u. takes_at m p s (takes x) (down v u))
      ∙ sym (assoc (value e t) (λ v. down v >>= erased.taken sees shows classes ls tid x) (afterwards m p s))

  abbrev write_one : ℕ → ℕ → Value → Value → M (Unit {0})
  write_one = erase.write_shown sees shows

  write_at : (s : Statement) (site field x : ℕ) (r : Run Value) → and_then r (λ v. local x >>= λ o. write_one site field v o)
      ≡ and_then (and_then r (λ v. local x >>= λ o. write_one site field v o >> gives passed)) (afterwards m p s)
  write_at s site field x (goes v t) = tail m p s (write_one site field v (unwrap_or (slice_get t.locals x) Null) t)
  write_at s site field x (ends e t) = refl

  abbrev step_of : form.Statement-F Statement → M (Unit {0})
  step_of y = erase.statement_step sees shows classes ls tid c (map-Statement Statement (M (Unit {0})) (erase.statement sees shows classes ls tid c) y)

  layer : (y : form.Statement-F Statement) (s : Statement) → ((t : State) → step_of y t ≡ m.statement p s t) → (t : State)
      → step_of y t ≡ and_then (charge t) (λ _ u. and_then (work y u) (afterwards m p s))
  layer (form.Assign x r at) s is t =
      on (charge t) (λ _ u. and_then (right_of x r u) (takes x)) (λ _ u. and_then (work (form.Assign x r at) u) (afterwards m p s)) (λ _ u. right_at s x r u)
  layer (form.Write x field e site) s is t =
      on (charge t) (λ _ u. and_then (value e u) (λ v. local x.number >>= λ o. write_one site field v o))
      (λ _ u. and_then (work (form.Write x field e site) u) (afterwards m p s))
      (λ _ u. write_at s site field x.number (value e u))
  layer (form.Call n args) s is t =
      on (charge t) (λ _ u. and_then (values args u) (λ vs. c n.number vs >> gives tt)) (λ _ u. and_then (work (form.Call n args) u) (afterwards m p s))
      (λ _ u. call_none m p s n.number (values args u))
  layer (form.If e a b) s is t =
      let seen = (erase.part sees shows classes ls e).seen in
      on (charge t) (λ _ u. and_then (value e u) (λ v. cond seen (cond (holds v) (block m p a) (block m p b)) (gives tt)))
      (λ _ u. and_then (work (form.If e a b) u) (afterwards m p s))
      (λ _ u. if_shown m p s seen a b (value e u))
  layer (form.While e a) s is t = while_shown m p s (erase.part sees shows classes ls e).seen (value e) a is (value_spends e) (block_spends a) t
  layer (form.Atomic label a b at) s is t =
      on (charge t) (λ _ u. cond (sees label.number) (atomically (block m p a) (block m p b)) (gives tt) u)
      (λ _ u. and_then (work (form.Atomic label a b at) u) (afterwards m p s))
      (λ _ u. atomic_shown m p s (sees label.number) a b u)
  layer (form.Fail at) s is t = refl

  pub statement_is : (s : Statement) (t : State) → m.statement p s t ≡ and_then (erased.act sees shows classes ls tid s t) (afterwards m p s)
  statement_is s t = sym (opened t) ∙ layer (out-Statement s) s opened t ∙ sym (assoc (charge t) (λ _. work (out-Statement s)) (afterwards m p s))
    where
      opened : (u : State) → step_of (out-Statement s) u ≡ m.statement p s u
      opened u =
          ap (λ q. q u) (sym (fold-roll-Statement (M (Unit {0})) (erase.statement_step sees shows classes ls tid c) (out-Statement s)))
          ∙ ap (λ x. erase.statement sees shows classes ls tid c x u) (roll-out-Statement s)
