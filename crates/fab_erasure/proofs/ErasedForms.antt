-- What each form means erased, from what its parts mean.
use Rattle.std.proofs.Common.{◌≡◌, ℕ, Bool, List, Option, ap, ◌∙◌}
use Rattle.fab_base.specs.declared.object.Tid.{Tid}
use Rattle.fab_base.specs.declared.object.Value.{Value}
use Rattle.fab_tree.specs.declared.expression.Operator.{Operator}
use Rattle.fab_tree.specs.declared.resolved.Class.{Class}
use Rattle.fab_tree.specs.declared.resolved.Local.{Local}
use Rattle.fab_tree.specs.declared.resolved.Expression.{Expression, fold-roll-Expression}
use Rattle.fab_tree.specs.declared.resolved.Form.{Form, roll-Form, fold-Form, fold-roll-Form, map-Form}
use Rattle.fab_tree.specs.declared.resolved.Form.TheOpen as f
use Rattle.fab_tree.specs.declared.resolved.Operand.{Operand, fold-Operand, fold-roll-Operand}
use Rattle.fab_tree.specs.declared.resolved.Statement.{Statement, roll-Statement, fold-roll-Statement, map-Statement}
use Rattle.fab_tree.specs.declared.resolved.Statement.TheOpen as s
use Rattle.fab_language.specs.Meaning.{State, M}
use Rattle.fab_language.proofs.Forms.{expression_at, operand_at}
use Rattle.fab_erasure.specs.Erased.{Part, form_step, part, value, statement, statement_step}

module _ (sees shows : ℕ → Bool) (classes : List Class) (locals : List Local) where
  abbrev pub step : f.Form-F Part Part (Operator × Part) → Part
  step = form_step sees shows classes locals

  abbrev pub form_part : Form → Part
  form_part = fold-Form Part Part (Operator × Part) step (λ e. e.form) (λ u. (u.operator, u.operand))

  abbrev pub operand_part : Operand → Operator × Part
  operand_part = fold-Operand Part Part (Operator × Part) step (λ e. e.form) (λ u. (u.operator, u.operand))

  pub part_is : (at : ℕ) (layer : f.Form-F Form Expression Operand)
      → part sees shows classes locals (expression_at at layer) ≡ step (map-Form Form Expression Operand Part Part (Operator × Part) form_part (part sees shows classes locals) operand_part layer)
  part_is at layer =
      fold-roll-Expression Part Part (Operator × Part) step (λ e. e.form) (λ u. (u.operator, u.operand)) (record { form = roll-Form layer; at = at })
      ∙ fold-roll-Form Part Part (Operator × Part) step (λ e. e.form) (λ u. (u.operator, u.operand)) layer

  -- and so its value, from a state on
  pub value_is : (at : ℕ) (layer : f.Form-F Form Expression Operand) (t : State)
      → value sees shows classes locals (expression_at at layer) t ≡ (step (map-Form Form Expression Operand Part Part (Operator × Part) form_part (part sees shows classes locals) operand_part layer)).run t
  value_is at layer t = ap (λ p. p.run t) (part_is at layer)

  pub operand_is : (at : ℕ) (operator : Operator) (e : Expression) → operand_part (operand_at at operator e) ≡ (operator, part sees shows classes locals e)
  operand_is at operator e = fold-roll-Operand Part Part (Operator × Part) step (λ x. x.form) (λ u. (u.operator, u.operand)) (record { operator = operator; at = at; operand = e })

  pub operand_value_is : (at : ℕ) (operator : Operator) (e : Expression) (t : State) → (operand_part (operand_at at operator e)).1.run t ≡ value sees shows classes locals e t
  operand_value_is at operator e t = ap (λ u. u.1.run t) (operand_is at operator e)

  module _ (tid : Tid) (call : ℕ → List Value → M (Option Value)) where
    pub does_is : (x : s.Statement-F Statement) → statement sees shows classes locals tid call (roll-Statement x)
        ≡ statement_step sees shows classes locals tid call (map-Statement Statement (M (Unit {0})) (statement sees shows classes locals tid call) x)
    does_is x = fold-roll-Statement (M (Unit {0})) (statement_step sees shows classes locals tid call) x
