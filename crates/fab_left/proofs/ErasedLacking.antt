-- Where an object lacks, what was done erased, and at once, has changed nothing but fuel, and noted touches behind those before.
use Rattle.std.proofs.Common.{◌≡◌, ℕ, List, [], ◌∷◌, Option, Some, None, Bool, true, false, cond, if◌then◌else◌}
use Rattle.std.specs.Prelude.{slice_get}
use Rattle.std.specs.List.{flat_map}
use Rattle.fab_base.specs.declared.object.Oid.{Oid}
use Rattle.fab_base.specs.declared.object.Tid.{Tid}
use Rattle.fab_base.specs.declared.object.Value.{Value}
use Rattle.fab_base.specs.declared.object.Value.TheVariants.{Null, Ref}
use Rattle.fab_base.specs.Values.{referred}
use Rattle.fab_tree.specs.declared.resolved.Class.{Class}
use Rattle.fab_tree.specs.declared.resolved.Local.{Local}
use Rattle.fab_tree.specs.declared.resolved.Expression.{Expression}
use Rattle.fab_tree.specs.declared.resolved.Return.{Return}
use Rattle.fab_tree.specs.declared.resolved.Returns.{Returns}
use Rattle.fab_tree.specs.declared.resolved.Right.{Right}
use Rattle.fab_tree.specs.declared.resolved.Right.TheVariants as rights
use Rattle.fab_tree.specs.declared.resolved.Statement.{Statement, out-Statement}
use Rattle.fab_tree.specs.declared.resolved.Statement.TheOpen as form
use Rattle.fab_labelling.specs.Sites.{sites_in, return_sites}
use Rattle.fab_language.specs.Meaning.{State, missing, ends, M, and_then, gives, ◌>>◌, local, led, write, create, noted_down}
use Rattle.fab_laws.proofs.Everywhere.{Anywhere}
use Rattle.fab_laws.proofs.Values.{all_any}
use Rattle.fab_erasure.specs.Erased as erase
use Rattle.fab_erasure.proofs.Everywhere as everywhere
use Rattle.fab_left.specs.Left.{DiffersLittle}
use Rattle.fab_left.specs.Deeds.{Deed, passed}
use Rattle.fab_left.specs.ErasedActs as erased
use Rattle.fab_left.proofs.Lacking.{Lacks, Never, Quiet, Still, reads, quiet_local, as_lacking, lacks_then, lacks_more, lacks_charged, lacks_quiet, lacks_write_one}
use Rattle.fab_left.proofs.Lacking.{never_then, never_made, misses}

module _ (sees shows : ℕ → Bool) (classes : List Class) (ls : List Local) (tid : Tid) where
  quiet_value : (e : Expression) → Quiet (erase.value sees shows classes ls e)
  quiet_value e = (everywhere.expressions Still Anywhere sees shows (reads shows) classes ls e).by (all_any (sites_in e))

  quiet_values : (es : List Expression) → Quiet (erase.values sees shows classes ls es)
  quiet_values es = everywhere.all_values Still Anywhere sees shows (reads shows) classes ls es (all_any (flat_map sites_in es))

  quiet_returned : (returns : Option Returns) (r : Option Return) → Quiet (erase.returned sees shows classes ls returns r)
  quiet_returned returns r = everywhere.all_returned Still Anywhere sees shows (reads shows) classes ls returns r (all_any (return_sites r))

  lacks_shown : (b : Bool) (site field : ℕ) (v : Value) (o : Oid) (t : State) → Lacks t ((if b then write site field v (Ref o) else gives tt) t)
  lacks_shown true site field v o t = lacks_write_one site field v o t
  lacks_shown false site field v o t = tt

  lacks_write : (site field : ℕ) (v w : Value) (t : State) → Lacks t (erase.write_shown sees shows site field v w t)
  lacks_write site field v w t = by (referred w)
    where
      by : (o : Option Oid) → Lacks t (led o (λ p. if shows p.class then write site field v (Ref p) else gives tt) t)
      by None = tt
      by (Some o) = lacks_shown (shows o.class) site field v o t

  never_chosen : {A : Type 0} (b : Bool) (m n : M A) (t : State) → Never (m t) → Never (n t) → Never (cond b m n t)
  never_chosen true m n t h k = h
  never_chosen false m n t h k = k

  never_taken : (blank : Value) (vs : List Value) (t : State) → Never (erase.taken blank vs t)
  never_taken blank [] t = tt
  never_taken blank (v ∷ vs) t = tt

  never_down : (blank : Value) (from to : ℕ) (v : Value) (t : State) → Never (erase.downgraded sees shows classes ls blank from to v t)
  never_down blank from to v t =
      never_chosen (sees from) (gives v) (if sees to then erase.take_given blank else gives Null) t tt
      (never_chosen (sees to) (erase.take_given blank) (gives Null) t (never_taken blank t.given t) tt)

  abbrev takes : ℕ → Value → M Deed
  takes = erased.taken sees shows classes ls tid

  lacks_right : (x : ℕ) (y : Right) (t : State) → Lacks t (erased.right_act sees shows classes ls tid x y t)
  lacks_right x (rights.Plain e) t = lacks_then t (erase.value sees shows classes ls e t) (takes x) ((quiet_value e).by t) (λ v u. tt)
  lacks_right x (rights.Call n args) t = lacks_then t (erase.values sees shows classes ls args t) _ ((quiet_values args).by t) (λ vs u. tt)
  lacks_right x (rights.New class store args site at) t =
      lacks_then t (erase.values sees shows classes ls args t) _ ((quiet_values args).by t) (λ vs u.
      let new = create tid store.number class.number site (erase.fields_shown sees shows class.number vs) u in
      as_lacking u (and_then new (takes x))
      (never_then new (takes x) (never_made tid store.number class.number site (erase.fields_shown sees shows class.number vs) u) (λ v w. tt)))
  lacks_right x (rights.Downgrade downgrade e from to site at) t =
      let blank = erase.blank_of sees shows classes ls (slice_get ls x) in
      lacks_then t (erase.value sees shows classes ls e t) _ ((quiet_value e).by t) (λ v u.
      let down = erase.downgraded sees shows classes ls blank from.number to.number v u in
      as_lacking u (and_then (and_then down (noted_down site)) (takes x))
      (never_then (and_then down (noted_down site)) (takes x) (never_then down (noted_down site) (never_down blank from.number to.number v u) (λ w z. tt)) (λ w z. tt)))

  lacks_work : (y : form.Statement-F Statement) (t : State) → Lacks t (erased.work sees shows classes ls tid y t)
  lacks_work (form.Assign x r at) t = lacks_right x r t
  lacks_work (form.Write x field e site) t =
      lacks_then t (erase.value sees shows classes ls e t) _ ((quiet_value e).by t) (λ v u.
      lacks_then u (local x.number u) (λ o. erase.write_shown sees shows site field v o >> gives passed) ((quiet_local x.number).by u) (λ o w.
      lacks_more w (erase.write_shown sees shows site field v o w) (λ _. gives passed) (lacks_write site field v o w) (λ a z. tt)))
  lacks_work (form.Call n args) t = lacks_then t (erase.values sees shows classes ls args t) _ ((quiet_values args).by t) (λ vs u. tt)
  lacks_work (form.If e a b) t = lacks_then t (erase.value sees shows classes ls e t) _ ((quiet_value e).by t) (λ v u. tt)
  lacks_work (form.While e a) t = lacks_then t (erase.value sees shows classes ls e t) _ ((quiet_value e).by t) (λ v u. tt)
  lacks_work (form.Atomic label a b at) t = tt
  lacks_work (form.Fail at) t = tt

  pub act_misses : (s : Statement) (t : State) (site : ℕ) (o : Oid) (u : State) → erased.act sees shows classes ls tid s t ≡ ends (missing site o) u → DiffersLittle t u
  act_misses s t site o u e =
      misses t u (erased.act sees shows classes ls tid s t) site o
      (lacks_charged (erased.work sees shows classes ls tid (out-Statement s)) (lacks_work (out-Statement s)) t) e

  pub returned_misses : (returns : Option Returns) (r : Option Return) (t : State) (site : ℕ) (o : Oid) (u : State)
      → erase.returned sees shows classes ls returns r t ≡ ends (missing site o) u → DiffersLittle t u
  returned_misses returns r t site o u e =
      misses t u (erase.returned sees shows classes ls returns r t) site o
      (lacks_quiet t (erase.returned sees shows classes ls returns r t) ((quiet_returned returns r).by t)) e
