-- What is done erased, and at once, over what is known is done over more objects, too, unless one lacked.
use Rattle.std.proofs.Common.{◌≡◌, ℕ, List, [], ◌∷◌, Option, Bool, true, false, cond, if◌then◌else◌, refl}
use Rattle.std.specs.Prelude.{slice_get}
use Rattle.std.specs.List.{flat_map}
use Rattle.fab_base.specs.declared.object.Tid.{Tid}
use Rattle.fab_base.specs.declared.object.Value.{Value}
use Rattle.fab_base.specs.declared.object.Value.TheVariants.{Null, Ref}
use Rattle.fab_base.specs.FlatMap.{FlatMap}
use Rattle.fab_base.specs.Values.{referred}
use Rattle.fab_tree.specs.declared.resolved.Class.{Class}
use Rattle.fab_tree.specs.declared.resolved.Local.{Local}
use Rattle.fab_tree.specs.declared.resolved.Expression.{Expression}
use Rattle.fab_tree.specs.declared.resolved.Return.{Return}
use Rattle.fab_tree.specs.declared.resolved.Returns.{Returns}
use Rattle.fab_tree.specs.declared.resolved.Right.{Right}
use Rattle.fab_tree.specs.declared.resolved.Right.TheVariants as rights
use Rattle.fab_tree.specs.declared.resolved.Statement.{Statement, out-Statement}
use Rattle.fab_tree.specs.declared.resolved.Statement.TheOpen as form
use Rattle.fab_labelling.specs.Sites.{sites_in, return_sites}
use Rattle.fab_language.specs.Meaning.{State, M, gives, ◌>>=◌, charge, local, write, create, noted_down}
use Rattle.fab_laws.specs.Runs.{state_behind}
use Rattle.fab_laws.proofs.Everywhere.{Anywhere}
use Rattle.fab_laws.proofs.Values.{all_any}
use Rattle.fab_erasure.specs.Erased as erase
use Rattle.fab_erasure.proofs.Everywhere as everywhere
use Rattle.fab_left.specs.Left.{wider, widened}
use Rattle.fab_left.specs.Deeds.{passed}
use Rattle.fab_left.specs.ErasedActs as erased
use Rattle.fab_left.proofs.Carried.{Carries, Carry, reads, bind, then_, calm, given, failing, locals, assigns, downs, charges, writes_one, makes_one, led_carries}

module _ (tid : Tid) (known : FlatMap) (sees shows : ℕ → Bool) (classes : List Class) (ls : List Local) where
  choice : {A : Type 0} (b : Bool) (m n : M A) → Carries tid known m → Carries tid known n → Carries tid known (cond b m n)
  choice true m n h k = h
  choice false m n h k = k

  value_carries : (e : Expression) → Carries tid known (erase.value sees shows classes ls e)
  value_carries e = (everywhere.expressions (Carry tid known) Anywhere sees shows (reads tid known shows) classes ls e).by (all_any (sites_in e))

  values_carry : (es : List Expression) → Carries tid known (erase.values sees shows classes ls es)
  values_carry es = everywhere.all_values (Carry tid known) Anywhere sees shows (reads tid known shows) classes ls es (all_any (flat_map sites_in es))

  pub returned_carries : (returns : Option Returns) (r : Option Return) → Carries tid known (erase.returned sees shows classes ls returns r)
  returned_carries returns r = everywhere.all_returned (Carry tid known) Anywhere sees shows (reads tid known shows) classes ls returns r (all_any (return_sites r))

  writes : (site field : ℕ) (v w : Value) → Carries tid known (erase.write_shown sees shows site field v w)
  writes site field v w = led_carries tid known (referred w) _
      (λ o. choice (shows o.class) (write site field v (Ref o)) (gives tt) (writes_one tid known site field v o) (given tid known tt))

  take_carries : (blank : Value) → Carries tid known (erase.take_given blank)
  take_carries blank = calm tid known _ (λ t more. step t.given t more) (λ t. still t.given t)
    where
      step : (vs : List Value) (t : State) (more : FlatMap) → erase.taken blank vs (wider more t) ≡ widened more (erase.taken blank vs t)
      step [] t more = refl
      step (v ∷ vs) t more = refl

      still : (vs : List Value) (t : State) → (state_behind (erase.taken blank vs t)).heap ≡ t.heap
      still [] t = refl
      still (v ∷ vs) t = refl

  downgrades : (blank : Value) (from to : ℕ) (v : Value) → Carries tid known (erase.downgraded sees shows classes ls blank from to v)
  downgrades blank from to v =
      choice (sees from) (gives v) (if sees to then erase.take_given blank else gives Null) (given tid known v)
      (choice (sees to) (erase.take_given blank) (gives Null) (take_carries blank) (given tid known Null))

  takes : (x : ℕ) (v : Value) → Carries tid known (erased.taken sees shows classes ls tid x v)
  takes x v = then_ tid known (erased.assign_shown sees shows ls x v) (gives passed) (assigns tid known x _) (given tid known passed)

  rights_carry : (x : ℕ) (y : Right) → Carries tid known (erased.right_act sees shows classes ls tid x y)
  rights_carry x (rights.Plain e) = bind tid known (erase.value sees shows classes ls e) (erased.taken sees shows classes ls tid x) (value_carries e) (takes x)
  rights_carry x (rights.Call n args) = bind tid known (erase.values sees shows classes ls args) _ (values_carry args) (λ vs. given tid known _)
  rights_carry x (rights.New class store args site at) = bind tid known (erase.values sees shows classes ls args) _ (values_carry args)
      (λ vs. bind tid known (create tid store.number class.number site (erase.fields_shown sees shows class.number vs)) (erased.taken sees shows classes ls tid x)
      (makes_one tid known store.number class.number site (erase.fields_shown sees shows class.number vs)) (takes x))
  rights_carry x (rights.Downgrade downgrade e from to site at) =
      let blank = erase.blank_of sees shows classes ls (slice_get ls x) in
      bind tid known (erase.value sees shows classes ls e) _ (value_carries e)
      (λ v. bind tid known (erase.downgraded sees shows classes ls blank from.number to.number v >>= noted_down site) (erased.taken sees shows classes ls tid x)
      (bind tid known (erase.downgraded sees shows classes ls blank from.number to.number v) (noted_down site) (downgrades blank from.number to.number v)
      (downs tid known site)) (takes x))

  works : (y : form.Statement-F Statement) → Carries tid known (erased.work sees shows classes ls tid y)
  works (form.Assign x r at) = rights_carry x r
  works (form.Write x field e site) = bind tid known (erase.value sees shows classes ls e) _ (value_carries e)
      (λ v. bind tid known (local x.number) _ (locals tid known x.number)
      (λ o. then_ tid known (erase.write_shown sees shows site field v o) (gives passed) (writes site field v o) (given tid known passed)))
  works (form.Call n args) = bind tid known (erase.values sees shows classes ls args) _ (values_carry args) (λ vs. given tid known _)
  works (form.If e a b) = bind tid known (erase.value sees shows classes ls e) _ (value_carries e) (λ v. given tid known _)
  works (form.While e a) = bind tid known (erase.value sees shows classes ls e) _ (value_carries e) (λ v. given tid known _)
  works (form.Atomic label a b at) = given tid known _
  works (form.Fail at) = failing tid known

  pub acts : (s : Statement) → Carries tid known (erased.act sees shows classes ls tid s)
  acts s = then_ tid known charge (erased.work sees shows classes ls tid (out-Statement s)) (charges tid known) (works (out-Statement s))
