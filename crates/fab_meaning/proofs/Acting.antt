-- What a statement of each form does at once, as far as it is seen.
use Rattle.std.proofs.Common.{◌≡◌, ℕ, List, None, if◌then◌else◌, sym, ap, ◌∙◌}
use Rattle.fab_base.specs.declared.object.Tid.{Tid}
use Rattle.fab_base.specs.declared.object.Value.{Value}
use Rattle.fab_tree.specs.declared.resolved.Use.{Use}
use Rattle.fab_tree.specs.declared.resolved.Method.{Method}
use Rattle.fab_tree.specs.declared.resolved.Right.{Right}
use Rattle.fab_tree.specs.declared.resolved.Expression.{Expression}
use Rattle.fab_tree.specs.declared.resolved.Statement.{Statement, roll-Statement}
use Rattle.fab_tree.specs.declared.resolved.Statement.TheVariants as tree
use Rattle.fab_tree.specs.declared.resolved.Statement.TheOpen as form
use Rattle.fab_language.specs.Meaning.{State, and_then, create, failed, goes, ends, gives, ◌>>◌, charge}
use Rattle.fab_erasure.specs.Erased.{fields_shown}
use Rattle.fab_left.specs.ErasedActs as erased
use Rattle.fab_left.specs.Deeds.{passed, trying}
use Rattle.fab_left.proofs.ActForms.{erased_act_is}
use Rattle.fab_meaning.specs.declared.setting.Setting.{Setting}
use Rattle.fab_meaning.specs.Settings.{act, calling, choice, making, repeat, right_act, takes, values, writing}
use Rattle.fab_meaning.specs.Sights.{sees, shows}

module _ (c : Setting) (m : Method) (tid : Tid) where
  opened : (x : form.Statement-F Statement) → act c m tid (roll-Statement x) ≡ (charge >> erased.work (sees c.sight) (shows c.sight) c.program.now.classes m.locals tid x)
  opened x = erased_act_is (sees c.sight) (shows c.sight) c.program.now.classes m.locals tid x

  pub act_assign : (x : ℕ) (r : Right) (at : ℕ) → act c m tid (tree.Assign x r at) ≡ (charge >> right_act c m tid x r)
  act_assign x r at = ap (act c m tid) (sym (tree.rolls-Assign x r at)) ∙ opened (form.Assign x r at)

  pub act_write : (x : Use) (field : ℕ) (e : Expression) (site : ℕ)
      → act c m tid (tree.Write x field e site) ≡ (charge >> writing c m x field e site)
  act_write x field e site = ap (act c m tid) (sym (tree.rolls-Write x field e site)) ∙ opened (form.Write x field e site)

  pub act_call : (n : Use) (args : List Expression) → act c m tid (tree.Call n args) ≡ (charge >> calling c m n args None)
  act_call n args = ap (act c m tid) (sym (tree.rolls-Call n args)) ∙ opened (form.Call n args)

  pub act_if : (e : Expression) (a b : List Statement) → act c m tid (tree.If e a b) ≡ (charge >> choice c m e a b)
  act_if e a b = ap (act c m tid) (sym (tree.rolls-If e a b)) ∙ opened (form.If e a b)

  pub act_while : (e : Expression) (a : List Statement) → act c m tid (tree.While e a) ≡ (charge >> repeat c m e a)
  act_while e a = ap (act c m tid) (sym (tree.rolls-While e a)) ∙ opened (form.While e a)

  pub act_atomic : (label : Use) (a b : List Statement) (at : ℕ) → act c m tid (tree.Atomic label a b at) ≡ (charge >> gives (if sees c.sight label.number then trying a b else passed))
  act_atomic label a b at = ap (act c m tid) (sym (tree.rolls-Atomic label a b at)) ∙ opened (form.Atomic label a b at)

  pub act_fail : (at : ℕ) → act c m tid (tree.Fail at) ≡ (charge >> ends failed)
  act_fail at = ap (act c m tid) (sym (tree.rolls-Fail at)) ∙ opened (form.Fail at)

  -- ---- an object is made

  pub act_new : (other : Tid) (x store class site : ℕ) (args : List Expression) (t u w z : State) (vs fields : List Value) (v : Value) → other ≡ tid → values c m args t ≡ goes vs u
      → fields ≡ fields_shown (sees c.sight) (shows c.sight) class vs → create other store class site fields u ≡ goes v w → takes c.sight m x v w ≡ goes tt z
      → making c m tid x store class site args t ≡ goes passed z
  act_new other x store class site args t u w z vs fields v b e s f g = rw (← b, e, ← s, f) (ap (λ r. and_then r (λ _. gives passed)) g)
