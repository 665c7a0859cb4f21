-- What a statement of each form does at once.
use Rattle.std.proofs.Common.{◌≡◌, ℕ, List, None, if◌then◌else◌, sym, ap, ◌∙◌}
use Rattle.fab_base.specs.declared.object.Tid.{Tid}
use Rattle.fab_tree.specs.declared.resolved.Use.{Use}
use Rattle.fab_tree.specs.declared.resolved.Right.{Right}
use Rattle.fab_tree.specs.declared.resolved.Expression.{Expression}
use Rattle.fab_tree.specs.declared.resolved.Statement.{Statement}
use Rattle.fab_tree.specs.declared.resolved.Statement.TheVariants as tree
use Rattle.fab_tree.specs.declared.resolved.Statement.TheOpen as form
use Rattle.fab_base.specs.declared.object.Value.{Value}
use Rattle.fab_language.specs.Meaning.{State, and_then, assign, create, failed, goes, ends, gives, ◌>>=◌, ◌>>◌, charge, local, write, holds, value, values}
use Rattle.fab_left.specs.Acts.{right_act, act, taken}
use Rattle.fab_left.specs.Deeds.{passed, into, again, trying, entering}
use Rattle.fab_left.proofs.ActForms.{act_is}

pub act_assign : (tid : Tid) (x : ℕ) (r : Right) (at : ℕ) → act tid (tree.Assign x r at) ≡ (charge >> right_act tid x r)
act_assign tid x r at = ap (act tid) (sym (tree.rolls-Assign x r at)) ∙ act_is tid (form.Assign x r at)

pub act_write : (tid : Tid) (x : Use) (field : ℕ) (e : Expression) (site : ℕ) → act tid (tree.Write x field e site) ≡ (charge >> (value e >>= λ v. local x.number >>= λ o. write site field v o >> gives passed))
act_write tid x field e site = ap (act tid) (sym (tree.rolls-Write x field e site)) ∙ act_is tid (form.Write x field e site)

pub act_call : (tid : Tid) (m : Use) (args : List Expression) → act tid (tree.Call m args) ≡ (charge >> (values args >>= λ vs. gives (entering m.number vs None)))
act_call tid m args = ap (act tid) (sym (tree.rolls-Call m args)) ∙ act_is tid (form.Call m args)

pub act_if : (tid : Tid) (e : Expression) (a b : List Statement) → act tid (tree.If e a b) ≡ (charge >> (value e >>= λ v. gives (into (if holds v then a else b))))
act_if tid e a b = ap (act tid) (sym (tree.rolls-If e a b)) ∙ act_is tid (form.If e a b)

pub act_while : (tid : Tid) (e : Expression) (a : List Statement) → act tid (tree.While e a) ≡ (charge >> (value e >>= λ v. gives (if holds v then again a else passed)))
act_while tid e a = ap (act tid) (sym (tree.rolls-While e a)) ∙ act_is tid (form.While e a)

pub act_atomic : (tid : Tid) (label : Use) (a b : List Statement) (at : ℕ) → act tid (tree.Atomic label a b at) ≡ (charge >> gives (trying a b))
act_atomic tid label a b at = ap (act tid) (sym (tree.rolls-Atomic label a b at)) ∙ act_is tid (form.Atomic label a b at)

pub act_fail : (tid : Tid) (at : ℕ) → act tid (tree.Fail at) ≡ (charge >> ends failed)
act_fail tid at = ap (act tid) (sym (tree.rolls-Fail at)) ∙ act_is tid (form.Fail at)

-- ---- an object is made

pub act_new : (tid other : Tid) (store class site x : ℕ) (args given : List Expression) (t u w z : State) (vs : List Value) (v : Value)
    → given ≡ args → other ≡ tid → values given t ≡ goes vs u → create other store class site vs u ≡ goes v w → assign x v w ≡ goes tt z
    → (values args >>= λ fields. create tid store class site fields >>= taken x) t ≡ goes passed z
act_new tid other store class site x args given t u w z vs v a b e f g = rw (← a, ← b, e, f) (ap (λ r. and_then r (λ _. gives passed)) g)
