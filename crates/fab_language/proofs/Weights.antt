-- How many statements there are in a statement, itself included: what falls as methods are gone through.
use Rattle.std.proofs.Common.{◌≡◌, ℕ, zero, suc, ◌+◌, ◌<◌, ◌≤◌, List, [], ◌∷◌, map, length, get_or, Option, Some, None, sym, ap, ◌∙◌, arith}
use Rattle.fab_tree.specs.declared.name.Name.{Name}
use Rattle.fab_tree.specs.declared.expression.Expression.{Expression}
use Rattle.fab_tree.specs.declared.statement.Statement.{Statement, fold-Statement, fold-roll-Statement}
use Rattle.fab_tree.specs.declared.statement.Statement.TheVariants as forms
use Rattle.fab_tree.specs.declared.statement.Statement.TheOpen as o

abbrev total : List ℕ → ℕ
total [] = 0
total (n ∷ ns) = n + total ns

abbrev weight_step : o.Statement-F ℕ → ℕ
weight_step (o.Declare t x l e at) = 1
weight_step (o.Assign x r) = 1
weight_step (o.Write x y e) = 1
weight_step (o.Call x es) = 1
weight_step (o.If e block None) = suc (total block)
weight_step (o.If e block (Some other)) = suc (total block + total other)
weight_step (o.While e block) = suc (total block)
weight_step (o.Atomic x block other at) = suc (total block + total other)
weight_step (o.Fail at) = 1

abbrev pub weight : Statement → ℕ
weight = fold-Statement ℕ weight_step

abbrev pub weights : List Statement → ℕ
weights xs = total (map weight xs)

abbrev pub other_weights : Option (List Statement) → ℕ
other_weights None = 0
other_weights (Some xs) = weights xs

-- one of them weighs no more than all
pub weight_within : (xs : List Statement) (i : ℕ) (x : Statement) → i < length xs → x ≡ get_or xs i x → weight x ≤ weights xs
weight_within [] i x within is = absurd (omega (arith, within))
weight_within (y ∷ ys) zero x within is = let s = ap weight is in omega (arith, s)
weight_within (y ∷ ys) (suc i) x within is = let l = weight_within ys i x (omega (arith, within)) is in omega (arith, l)

weight_of_if : (e : Expression) (block : List Statement) (otherwise : Option (List Statement)) → weight (forms.If e block otherwise) ≡ suc (weights block + other_weights otherwise)
weight_of_if e block None = ap weight (sym (forms.rolls-If e block None)) ∙ fold-roll-Statement ℕ weight_step (o.If e block None) ∙ omega arith
weight_of_if e block (Some other) = ap weight (sym (forms.rolls-If e block (Some other))) ∙ fold-roll-Statement ℕ weight_step (o.If e block (Some other))

pub weight_if : (x : Statement) (e : Expression) (block : List Statement) (otherwise : Option (List Statement)) → x ≡ forms.If e block otherwise → weight x ≡ suc (weights block + other_weights otherwise)
weight_if x e block otherwise is = ap weight is ∙ weight_of_if e block otherwise

pub weight_while : (x : Statement) (e : Expression) (block : List Statement) → x ≡ forms.While e block → weight x ≡ suc (weights block)
weight_while x e block is = ap weight (is ∙ sym (forms.rolls-While e block)) ∙ fold-roll-Statement ℕ weight_step (o.While e block)

pub weight_atomic : (x : Statement) (y : Name) (block other : List Statement) (at : ℕ) → x ≡ forms.Atomic y block other at → weight x ≡ suc (weights block + weights other)
weight_atomic x y block other at is = ap weight (is ∙ sym (forms.rolls-Atomic y block other at)) ∙ fold-roll-Statement ℕ weight_step (o.Atomic y block other at)
