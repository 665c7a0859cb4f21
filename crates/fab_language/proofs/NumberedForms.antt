-- The numbers of each form of an expression and a statement, from those of its parts.
use Rattle.std.proofs.Common.{◌≡◌, ℕ, List, map, None, sym, ap, ◌∙◌}
use Rattle.fab_tree.specs.declared.name.Name.{Name}
use Rattle.fab_tree.specs.declared.expression.Number.{Number}
use Rattle.fab_tree.specs.declared.expression.Operator.{Operator}
use Rattle.fab_tree.specs.declared.expression.Comparison.{Comparison}
use Rattle.fab_tree.specs.declared.expression.Expression.{Expression, fold-roll-Expression}
use Rattle.fab_tree.specs.declared.expression.Form.{Form, roll-Form, map-Form, fold-roll-Form}
use Rattle.fab_tree.specs.declared.expression.Form.TheVariants as forms
use Rattle.fab_tree.specs.declared.expression.Form.TheOpen as f
use Rattle.fab_tree.specs.declared.expression.Operand.{Operand, fold-roll-Operand}
use Rattle.fab_tree.specs.declared.statement.Right.{Right}
use Rattle.fab_tree.specs.declared.statement.Statement.{Statement, roll-Statement, map-Statement, fold-roll-Statement}
use Rattle.fab_tree.specs.declared.statement.Statement.TheVariants as statements
use Rattle.fab_tree.specs.declared.statement.Statement.TheOpen as s
use Rattle.fab_tree.specs.declared.program.Parameter.{Parameter}
use Rattle.fab_tree.specs.declared.start.Start.{Start}
use Rattle.fab_tree.specs.declared.resolved.Expression.{Expression as NumberedExpression}
use Rattle.fab_tree.specs.declared.resolved.Form.{Form as NumberedForm}
use Rattle.fab_tree.specs.declared.resolved.Operand.{Operand as NumberedOperand}
use Rattle.fab_tree.specs.declared.resolved.Statement.{Statement as NumberedStatement}
use Rattle.fab_tree.specs.Expressions.{expression_at, operand_at}
use Rattle.fab_language.specs.MethodNumbers as n
use Rattle.fab_language.specs.MethodNumbers.{Numbered, made_of, form_step, expression_step, operand_step, form_of, expression_of, operand_of, statement_step, statement_of}

module _ (start : Start) (locals : List Parameter) where
  pub expression_numbers : (at : ℕ) (form : Form) → expression_of start locals (expression_at at form) ≡ made_of (n.expression_at at) (form_of start locals form)
  expression_numbers at form =
      fold-roll-Expression (Numbered NumberedForm) (Numbered NumberedExpression) (Numbered NumberedOperand)
      (form_step start locals) (expression_step start locals) (operand_step start locals)
      (record { form = form; at = at })

  pub operand_numbers : (at : ℕ) (operator : Operator) (e : Expression) → operand_of start locals (operand_at at operator e) ≡ made_of (n.operand_at at operator) (expression_of start locals e)
  operand_numbers at operator e =
      fold-roll-Operand (Numbered NumberedForm) (Numbered NumberedExpression) (Numbered NumberedOperand)
      (form_step start locals) (expression_step start locals) (operand_step start locals)
      (record { operator = operator; at = at; operand = e })

  -- a form, of its layer
  pub form_numbers : (x : Form) (y : f.Form-F Form Expression Operand) → x ≡ roll-Form y → form_of start locals x ≡ form_step start locals (map-Form Form Expression Operand (Numbered NumberedForm) (Numbered NumberedExpression) (Numbered NumberedOperand) (form_of start locals) (expression_of start locals) (operand_of start locals) y)
  form_numbers x y is =
      ap (form_of start locals) is
      ∙ fold-roll-Form (Numbered NumberedForm) (Numbered NumberedExpression) (Numbered NumberedOperand)
      (form_step start locals) (expression_step start locals) (operand_step start locals) y

  pub number_numbers : (k : Number) → form_of start locals (forms.Number k) ≡ form_step start locals (f.Number k)
  number_numbers k = form_numbers (forms.Number k) (f.Number k) (sym (forms.rolls-Number k))

  pub local_numbers : (x : Name) → form_of start locals (forms.Local x) ≡ form_step start locals (f.Local x)
  local_numbers x = form_numbers (forms.Local x) (f.Local x) (sym (forms.rolls-Local x))

  pub read_numbers : (x y : Name) → form_of start locals (forms.Read x y) ≡ form_step start locals (f.Read x y)
  read_numbers x y = form_numbers (forms.Read x y) (f.Read x y) (sym (forms.rolls-Read x y))

  pub chain_numbers : (e : Expression) (us : List Operand) → form_of start locals (forms.Chain e us) ≡ form_step start locals (f.Chain (expression_of start locals e) (map (operand_of start locals) us))
  chain_numbers e us = form_numbers (forms.Chain e us) (f.Chain e us) (sym (forms.rolls-Chain e us))

  pub compared_numbers : (e g : Expression) (c : Comparison) → form_of start locals (forms.Compared e c g) ≡ form_step start locals (f.Compared (expression_of start locals e) c (expression_of start locals g))
  compared_numbers e g c = form_numbers (forms.Compared e c g) (f.Compared e c g) (sym (forms.rolls-Compared e c g))

  -- a statement, of its layer
  pub statement_numbers : (x : Statement) (y : s.Statement-F Statement) → x ≡ roll-Statement y → statement_of start locals x ≡ statement_step start locals (map-Statement Statement (Numbered NumberedStatement) (statement_of start locals) y)
  statement_numbers x y is =
      ap (statement_of start locals) is
      ∙ fold-roll-Statement (Numbered NumberedStatement) (statement_step start locals) y

  pub assign_numbers : (x : Name) (r : Right) → statement_of start locals (statements.Assign x r) ≡ statement_step start locals (s.Assign x r)
  assign_numbers x r = statement_numbers (statements.Assign x r) (s.Assign x r) (sym (statements.rolls-Assign x r))

  pub write_numbers : (x y : Name) (e : Expression) → statement_of start locals (statements.Write x y e) ≡ statement_step start locals (s.Write x y e)
  write_numbers x y e = statement_numbers (statements.Write x y e) (s.Write x y e) (sym (statements.rolls-Write x y e))

  pub if_numbers : (e : Expression) (block : List Statement) → statement_of start locals (statements.If e block None) ≡ statement_step start locals (s.If e (map (statement_of start locals) block) None)
  if_numbers e block = statement_numbers (statements.If e block None) (s.If e block None) (sym (statements.rolls-If e block None))
