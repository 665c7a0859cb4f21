-- What each form means, from what its parts mean.
use Rattle.std.proofs.Common.{◌≡◌, ℕ, List, Option, map, ◌∙◌}
use Rattle.fab_base.specs.declared.object.Tid.{Tid}
use Rattle.fab_base.specs.declared.object.Value.{Value}
use Rattle.fab_tree.specs.declared.expression.Number.{Number}
use Rattle.fab_tree.specs.declared.expression.Operator.{Operator}
use Rattle.fab_tree.specs.declared.expression.UnaryOperator.{UnaryOperator}
use Rattle.fab_tree.specs.declared.expression.Comparison.{Comparison}
use Rattle.fab_tree.specs.declared.resolved.Use.{Use}
use Rattle.fab_tree.specs.declared.resolved.Expression.{Expression, roll-Expression, fold-roll-Expression}
use Rattle.fab_tree.specs.declared.resolved.Form.{Form, roll-Form, fold-roll-Form}
use Rattle.fab_tree.specs.declared.resolved.Form.TheOpen as f
use Rattle.fab_tree.specs.declared.resolved.Operand.{Operand, roll-Operand, fold-roll-Operand}
use Rattle.fab_tree.specs.declared.resolved.Right.{Right}
use Rattle.fab_tree.specs.declared.resolved.Statement.{Statement, roll-Statement, fold-roll-Statement}
use Rattle.fab_tree.specs.declared.resolved.Statement.TheOpen as s
use Rattle.fab_language.specs.Meaning.{M, form_step, value, form_value, operand_value, statement, statement_step}

-- ---- expressions

-- an expression of one layer, which begins at a place
abbrev pub expression_at : ℕ → f.Form-F Form Expression Operand → Expression
expression_at at layer = roll-Expression (record { form = roll-Form layer; at = at })

-- an operand of a chain behind an operator at a place
abbrev pub operand_at : ℕ → Operator → Expression → Operand
operand_at at operator e = roll-Operand (record { operator = operator; at = at; operand = e })

pub operand_means : (at : ℕ) (operator : Operator) (e : Expression) → operand_value (operand_at at operator e) ≡ (operator, value e)
operand_means at operator e = fold-roll-Operand (M Value) (M Value) (Operator × M Value) form_step (λ x. x.form) (λ u. (u.operator, u.operand)) (record { operator = operator; at = at; operand = e })

opened : (at : ℕ) (layer : f.Form-F Form Expression Operand) → value (expression_at at layer) ≡ form_value (roll-Form layer)
opened at layer = fold-roll-Expression (M Value) (M Value) (Operator × M Value) form_step (λ e. e.form) (λ u. (u.operator, u.operand)) (record { form = roll-Form layer; at = at })

pub number_means : (at : ℕ) (n : Number) → value (expression_at at (f.Number n)) ≡ form_step (f.Number n)
number_means at n = opened at (f.Number n) ∙ fold-roll-Form (M Value) (M Value) (Operator × M Value) form_step (λ e. e.form) (λ u. (u.operator, u.operand)) (f.Number n)

pub null_means : (at : ℕ) → value (expression_at at f.Null) ≡ form_step f.Null
null_means at = opened at f.Null ∙ fold-roll-Form (M Value) (M Value) (Operator × M Value) form_step (λ e. e.form) (λ u. (u.operator, u.operand)) f.Null

pub local_means : (at : ℕ) (x : Use) → value (expression_at at (f.Local x)) ≡ form_step (f.Local x)
local_means at x = opened at (f.Local x) ∙ fold-roll-Form (M Value) (M Value) (Operator × M Value) form_step (λ e. e.form) (λ u. (u.operator, u.operand)) (f.Local x)

pub read_means : (at : ℕ) (x : Use) (field site : ℕ) → value (expression_at at (f.Read x field site)) ≡ form_step (f.Read x field site)
read_means at x field site = opened at (f.Read x field site) ∙ fold-roll-Form (M Value) (M Value) (Operator × M Value) form_step (λ e. e.form) (λ u. (u.operator, u.operand)) (f.Read x field site)

pub unary_means : (at : ℕ) (operator : UnaryOperator) (e : Expression) → value (expression_at at (f.Unary operator e)) ≡ form_step (f.Unary operator (value e))
unary_means at operator e =
    opened at (f.Unary operator e)
    ∙ fold-roll-Form (M Value) (M Value) (Operator × M Value) form_step (λ x. x.form) (λ u. (u.operator, u.operand)) (f.Unary operator e)

pub chain_means : (at : ℕ) (e : Expression) (us : List Operand) → value (expression_at at (f.Chain e us)) ≡ form_step (f.Chain (value e) (map operand_value us))
chain_means at e us = opened at (f.Chain e us) ∙ fold-roll-Form (M Value) (M Value) (Operator × M Value) form_step (λ x. x.form) (λ u. (u.operator, u.operand)) (f.Chain e us)

pub compared_means : (at : ℕ) (e : Expression) (comparison : Comparison) (g : Expression) → value (expression_at at (f.Compared e comparison g)) ≡ form_step (f.Compared (value e) comparison (value g))
compared_means at e comparison g = opened at (f.Compared e comparison g) ∙ fold-roll-Form (M Value) (M Value) (Operator × M Value) form_step (λ x. x.form) (λ u. (u.operator, u.operand)) (f.Compared e comparison g)

-- ---- statements, in an attempt and with what calls do

module _ (tid : Tid) (call : ℕ → List Value → M (Option Value)) where
  pub assign_means : (x : ℕ) (r : Right) (at : ℕ) → statement tid call (roll-Statement (s.Assign x r at)) ≡ statement_step tid call (s.Assign x r at)
  assign_means x r at = fold-roll-Statement (M (Unit {0})) (statement_step tid call) (s.Assign x r at)

  pub write_means : (x : Use) (field : ℕ) (e : Expression) (site : ℕ) → statement tid call (roll-Statement (s.Write x field e site)) ≡ statement_step tid call (s.Write x field e site)
  write_means x field e site = fold-roll-Statement (M (Unit {0})) (statement_step tid call) (s.Write x field e site)

  pub call_means : (m : Use) (args : List Expression) → statement tid call (roll-Statement (s.Call m args)) ≡ statement_step tid call (s.Call m args)
  call_means m args = fold-roll-Statement (M (Unit {0})) (statement_step tid call) (s.Call m args)

  pub if_means : (e : Expression) (block otherwise : List Statement) → statement tid call (roll-Statement (s.If e block otherwise)) ≡ statement_step tid call (s.If e (map (statement tid call) block) (map (statement tid call) otherwise))
  if_means e block otherwise = fold-roll-Statement (M (Unit {0})) (statement_step tid call) (s.If e block otherwise)

  pub while_means : (e : Expression) (block : List Statement) → statement tid call (roll-Statement (s.While e block)) ≡ statement_step tid call (s.While e (map (statement tid call) block))
  while_means e block = fold-roll-Statement (M (Unit {0})) (statement_step tid call) (s.While e block)

  pub atomic_means : (label : Use) (block otherwise : List Statement) (at : ℕ) → statement tid call (roll-Statement (s.Atomic label block otherwise at)) ≡ statement_step tid call (s.Atomic label (map (statement tid call) block) (map (statement tid call) otherwise) at)
  atomic_means label block otherwise at = fold-roll-Statement (M (Unit {0})) (statement_step tid call) (s.Atomic label block otherwise at)

  pub fail_means : (at : ℕ) → statement tid call (roll-Statement (s.Fail at)) ≡ statement_step tid call (s.Fail at)
  fail_means at = fold-roll-Statement (M (Unit {0})) (statement_step tid call) (s.Fail at)

-- the equations of expressions together
pub ruleset means = (number_means, null_means, local_means, read_means, unary_means, chain_means, operand_means, compared_means)

-- those of statements
pub ruleset statements_mean = (assign_means, write_means, call_means, if_means, while_means, atomic_means, fail_means)
