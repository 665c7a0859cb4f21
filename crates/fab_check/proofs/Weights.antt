-- How many statements there are in a statement, itself included: what falls as methods are gone through.
use Rattle.std.proofs.Common.{◌≡◌, ℕ, zero, suc, ◌+◌, ◌<◌, ◌≤◌, List, [], ◌∷◌, map, length, get_or, sym, ap, ◌∙◌, arith}
use Rattle.fab_tree.specs.declared.resolved.Use.{Use}
use Rattle.fab_tree.specs.declared.resolved.Expression.{Expression}
use Rattle.fab_tree.specs.declared.resolved.Statement.{Statement, fold-Statement, fold-roll-Statement}
use Rattle.fab_tree.specs.declared.resolved.Statement.TheVariants as forms
use Rattle.fab_tree.specs.declared.resolved.Statement.TheOpen as o

abbrev total : List ℕ → ℕ
total [] = 0
total (n ∷ ns) = n + total ns

abbrev weight_step : o.Statement-F ℕ → ℕ
weight_step (o.Assign x r at) = 1
weight_step (o.Write x field e site) = 1
weight_step (o.Call x es) = 1
weight_step (o.If e block otherwise) = suc (total block + total otherwise)
weight_step (o.While e block) = suc (total block)
weight_step (o.Atomic x block otherwise at) = suc (total block + total otherwise)
weight_step (o.Fail at) = 1

abbrev pub weight : Statement → ℕ
weight = fold-Statement ℕ weight_step

abbrev pub weights : List Statement → ℕ
weights xs = total (map weight xs)

-- one of them weighs no more than all
pub weight_within : (xs : List Statement) (i : ℕ) (x : Statement) → i < length xs → x ≡ get_or xs i x → weight x ≤ weights xs
weight_within [] i x within is = absurd (omega (arith, within))
weight_within (y ∷ ys) zero x within is = let s = ap weight is in omega (arith, s)
weight_within (y ∷ ys) (suc i) x within is = let l = weight_within ys i x (omega (arith, within)) is in omega (arith, l)

pub weight_if : (x : Statement) (e : Expression) (block otherwise : List Statement) → x ≡ forms.If e block otherwise → weight x ≡ suc (weights block + weights otherwise)
weight_if x e block otherwise is = ap weight (is ∙ sym (forms.rolls-If e block otherwise)) ∙ fold-roll-Statement ℕ weight_step (o.If e block otherwise)

pub weight_while : (x : Statement) (e : Expression) (block : List Statement) → x ≡ forms.While e block → weight x ≡ suc (weights block)
weight_while x e block is = ap weight (is ∙ sym (forms.rolls-While e block)) ∙ fold-roll-Statement ℕ weight_step (o.While e block)

pub weight_atomic : (x : Statement) (y : Use) (block otherwise : List Statement) (at : ℕ) → x ≡ forms.Atomic y block otherwise at → weight x ≡ suc (weights block + weights otherwise)
weight_atomic x y block otherwise at is = ap weight (is ∙ sym (forms.rolls-Atomic y block otherwise at)) ∙ fold-roll-Statement ℕ weight_step (o.Atomic y block otherwise at)
