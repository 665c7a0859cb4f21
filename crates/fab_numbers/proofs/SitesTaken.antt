-- How many sites expressions, statements and methods take: as many as they have.
use Rattle.std.proofs.Common.{◌≡◌, ℕ, suc, ◌+◌, List, [], ◌++◌, map, length, Option, Some, None, refl, sym, ap, ◌∙◌, subst, arith, length-append}
use Rattle.std.specs.List.{flat_map}
use Rattle.fab_tree.specs.declared.expression.Expression.{Expression, roll-Expression, ind-Expression, fold-roll-Expression}
use Rattle.fab_tree.specs.declared.expression.Form.{Form, roll-Form, map-Form, fold-Form, fold-roll-Form}
use Rattle.fab_tree.specs.declared.expression.Form.TheOpen as f
use Rattle.fab_tree.specs.declared.expression.Operand.{Operand, out-Operand, roll-out-Operand, fold-Operand, fold-roll-Operand}
use Rattle.fab_tree.specs.declared.statement.Right.{Right}
use Rattle.fab_tree.specs.declared.statement.Right.TheVariants as rights
use Rattle.fab_tree.specs.declared.statement.Statement.{Statement, roll-Statement, map-Statement, ind-Statement, fold-roll-Statement}
use Rattle.fab_tree.specs.declared.statement.Statement.TheOpen as s
use Rattle.fab_tree.specs.declared.program.Parameter.{Parameter}
use Rattle.fab_tree.specs.declared.program.Return.{Return}
use Rattle.fab_tree.specs.declared.program.Method.{Method}
use Rattle.fab_tree.specs.declared.start.Start.{Start}
use Rattle.fab_tree.specs.declared.resolved.Expression.{Expression as NumberedExpression}
use Rattle.fab_tree.specs.declared.resolved.Form.{Form as NumberedForm}
use Rattle.fab_tree.specs.declared.resolved.Operand.{Operand as NumberedOperand}
use Rattle.fab_tree.specs.declared.resolved.Statement.{Statement as NumberedStatement}
use Rattle.fab_tree.specs.Expressions.{expression_at, operand_at}
use Rattle.fab_tree.specs.Limits.{locals_of}
use Rattle.fab_tree.specs.Sites.{joined, in_form, in_expression, in_expressions, in_right, in_statement, in_statement_step, in_result, in_method}
use Rattle.fab_language.specs.MethodNumbers as n
use Rattle.fab_language.specs.MethodNumbers.{Numbered, siteless, made_of, in_turn, form_step, form_of, expression_of, operand_of, expressions_of, right_of, otherwise_of, statement_step, statement_of, block_of, result_of, method_of, methods_of}
use Rattle.fab_language.proofs.NumberedForms.{expression_numbers, operand_numbers, form_numbers, statement_numbers}
use Rattle.fab_numbers.proofs.InTurn.{Takes, takes_same, takes_in_turn, parts_take}

resized : {A : Type 0} (m l : Numbered A) (j k : ℕ) → Takes m j → l ≡ m → k ≡ j → Takes l k
resized m l j k t same size = subst (λ w. Takes w k) (sym same) (subst (λ w. Takes m w) (sym size) t)

abbrev pub in_part : Form → List ℕ
in_part = fold-Form (List ℕ) (List ℕ) (List ℕ) in_form (λ e. e.form) (λ u. u.operand)

abbrev pub in_operand : Operand → List ℕ
in_operand = fold-Operand (List ℕ) (List ℕ) (List ℕ) in_form (λ e. e.form) (λ u. u.operand)

both_sizes : (xs ys : List ℕ) → length (xs ++ ys) ≡ length xs + length ys
both_sizes xs ys = length-append xs ys

module _ (start : Start) (locals : List Parameter) where
  -- ---- expressions

  abbrev FormTakes : Form → Type 0
  FormTakes x = Takes (form_of start locals x) (length (in_part x))

  abbrev ExpressionTakes : Expression → Type 0
  ExpressionTakes x = Takes (expression_of start locals x) (length (in_expression x))

  abbrev OperandTakes : Operand → Type 0
  OperandTakes x = Takes (operand_of start locals x) (length (in_operand x))

  expression_case : (at : ℕ) (form : Form) → FormTakes form → ExpressionTakes (expression_at at form)
  expression_case at form t =
      resized (made_of (n.expression_at at) (form_of start locals form)) (expression_of start locals (expression_at at form)) (length (in_part form)) (length (in_expression (expression_at at form)))
      (takes_same (n.expression_at at) (form_of start locals form) (length (in_part form)) t)
      (expression_numbers start locals at form)
      (ap length (fold-roll-Expression (List ℕ) (List ℕ) (List ℕ) in_form (λ e. e.form) (λ u. u.operand) (record { form = form; at = at })))

  operand_case : (at : ℕ) (operator : _) (e : Expression) → ExpressionTakes e → OperandTakes (operand_at at operator e)
  operand_case at operator e t =
      resized (made_of (n.operand_at at operator) (expression_of start locals e)) (operand_of start locals (operand_at at operator e)) (length (in_expression e)) (length (in_operand (operand_at at operator e)))
      (takes_same (n.operand_at at operator) (expression_of start locals e) (length (in_expression e)) t)
      (operand_numbers start locals at operator e)
      (ap length (fold-roll-Operand (List ℕ) (List ℕ) (List ℕ) in_form (λ e. e.form) (λ u. u.operand) (record { operator = operator; at = at; operand = e })))

  -- a form, whose parts are some for which this is known
  module _ (F E O : Type 0) (form : F → Form) (expression : E → Expression) (operand : O → Operand) (of_expression : (k : E) → ExpressionTakes (expression k)) (of_operand : (k : O) → OperandTakes (operand k)) where
    abbrev parts : f.Form-F F E O → f.Form-F Form Expression Operand
    parts = map-Form F E O Form Expression Operand form expression operand

    operands_take : (ks : List O) → Takes (in_turn (map (operand_of start locals) (map operand ks))) (length (joined (map in_operand (map operand ks))))
    operands_take = parts_take (operand_of start locals) in_operand operand of_operand

    form_layer : (y : f.Form-F F E O)
        → Takes (form_step start locals (map-Form Form Expression Operand (Numbered NumberedForm) (Numbered NumberedExpression) (Numbered NumberedOperand) (form_of start locals) (expression_of start locals) (operand_of start locals) (parts y)))
        (length (in_form (map-Form Form Expression Operand (List ℕ) (List ℕ) (List ℕ) in_part in_expression in_operand (parts y))))
    form_layer (f.Number k) = record { takes = λ m. omega arith }
    form_layer f.Null = record { takes = λ m. omega arith }
    form_layer (f.Local x) = record { takes = λ m. omega arith }
    form_layer (f.Read x y) = record { takes = λ m. omega arith }
    form_layer (f.Unary o k) = record { takes = λ m. (of_expression k).takes m }
    form_layer (f.Chain k others) = record {
      takes = λ m.
          let here = (of_expression k).takes m in
          let rest = (operands_take others).takes (expression_of start locals (expression k) m).1 in
          let size = both_sizes (in_expression (expression k)) (joined (map in_operand (map operand others))) in
          omega (arith, here, rest, size);
    }
    form_layer (f.Compared k c l) = record {
      takes = λ m.
          let here = (of_expression k).takes m in
          let rest = (of_expression l).takes (expression_of start locals (expression k) m).1 in
          let size = both_sizes (in_expression (expression k)) (in_expression (expression l)) in
          omega (arith, here, rest, size);
    }

    form_case : (y : f.Form-F F E O) → FormTakes (roll-Form (parts y))
    form_case y = record {
      takes = λ m.
          ap (λ w. (w m).1) (form_numbers start locals (roll-Form (parts y)) (parts y) refl)
          ∙ (form_layer y).takes m
          ∙ ap (λ k. m + length k) (sym (fold-roll-Form (List ℕ) (List ℕ) (List ℕ) in_form (λ e. e.form) (λ u. u.operand) (parts y)));
    }

  pub expression_takes : (x : Expression) → ExpressionTakes x
  expression_takes =
      ind-Expression FormTakes ExpressionTakes OperandTakes
      (λ x y is. subst (λ z. FormTakes (roll-Form z)) is (form_case _ _ _ (λ k. k.0) (λ k. k.0) (λ k. k.0) (λ k. k.1) (λ k. k.1) y))
      (λ x y is. subst (λ z. ExpressionTakes (roll-Expression z)) is (expression_case y.at y.form.0 y.form.1))
      (λ x y is. subst (λ z. OperandTakes (operand_at z.at z.operator z.operand)) is (operand_case y.at y.operator y.operand.0 y.operand.1))

  pub operand_takes : (x : Operand) → OperandTakes x
  operand_takes x =
      subst OperandTakes (roll-out-Operand x)
      (operand_case (out-Operand x).at (out-Operand x).operator (out-Operand x).operand (expression_takes (out-Operand x).operand))

  pub operands_take_all : (xs : List Operand) → Takes (in_turn (map (operand_of start locals) xs)) (length (flat_map in_operand xs))
  operands_take_all = takes_in_turn (operand_of start locals) in_operand operand_takes

  pub expressions_take : (xs : List Expression) → Takes (expressions_of start locals xs) (length (in_expressions xs))
  expressions_take = takes_in_turn (expression_of start locals) in_expression expression_takes

  -- ---- statements

  pub right_takes : (x : Right) → Takes (right_of start locals x) (length (in_right x))
  right_takes (rights.Plain e) = record { takes = λ m. (expression_takes e).takes m }
  right_takes (rights.Call x es) = record { takes = λ m. (expressions_take es).takes m }
  right_takes (rights.New x y es at) = record { takes = λ m. let e = (expressions_take es).takes (suc m) in omega (arith, e) }
  right_takes (rights.Downgrade d e x y at) = record { takes = λ m. let h = (expression_takes e).takes (suc m) in omega (arith, h) }

  abbrev StatementTakes : Statement → Type 0
  StatementTakes x = Takes (statement_of start locals x) (length (in_statement x))

  module _ (S : Type 0) (statement : S → Statement) (of_statement : (k : S) → StatementTakes (statement k)) where
    abbrev pieces : s.Statement-F S → s.Statement-F Statement
    pieces = map-Statement S Statement statement

    block_layer : (ks : List S) → Takes (in_turn (map (statement_of start locals) (map statement ks))) (length (joined (map in_statement (map statement ks))))
    block_layer = parts_take (statement_of start locals) in_statement statement of_statement

    statement_layer : (y : s.Statement-F S)
        → Takes (statement_step start locals (map-Statement Statement (Numbered NumberedStatement) (statement_of start locals) (pieces y)))
        (length (in_statement_step (map-Statement Statement (List ℕ) in_statement (pieces y))))
    statement_layer (s.Declare t x l e at) = record { takes = λ m. (expression_takes e).takes m }
    statement_layer (s.Assign x r) = record { takes = λ m. (right_takes r).takes m }
    statement_layer (s.Write x y e) = record { takes = λ m. let h = (expression_takes e).takes (suc m) in omega (arith, h) }
    statement_layer (s.Call x es) = record { takes = λ m. (expressions_take es).takes m }
    statement_layer (s.If e block None) = record {
      takes = λ m.
          let c = (expression_takes e).takes m in
          let b = (block_layer block).takes (expression_of start locals e m).1 in
          let size = both_sizes (in_expression e) (joined (map in_statement (map statement block))) in
          let all = both_sizes (in_expression e ++ joined (map in_statement (map statement block))) [] in
          omega (arith, c, b, size, all);
    }
    statement_layer (s.If e block (Some other)) = record {
      takes = λ m.
          let c = (expression_takes e).takes m in
          let b = (block_layer block).takes (expression_of start locals e m).1 in
          let o = (block_layer other).takes (in_turn (map (statement_of start locals) (map statement block)) (expression_of start locals e m).1).1 in
          let size = both_sizes (in_expression e) (joined (map in_statement (map statement block))) in
          let all = both_sizes (in_expression e ++ joined (map in_statement (map statement block))) (joined (map in_statement (map statement other))) in
          omega (arith, c, b, o, size, all);
    }
    statement_layer (s.While e block) = record {
      takes = λ m.
          let c = (expression_takes e).takes m in
          let b = (block_layer block).takes (expression_of start locals e m).1 in
          let size = both_sizes (in_expression e) (joined (map in_statement (map statement block))) in
          omega (arith, c, b, size);
    }
    statement_layer (s.Atomic x block other at) = record {
      takes = λ m.
          let b = (block_layer block).takes m in
          let o = (block_layer other).takes (in_turn (map (statement_of start locals) (map statement block)) m).1 in
          let size = both_sizes (joined (map in_statement (map statement block))) (joined (map in_statement (map statement other))) in
          omega (arith, b, o, size);
    }
    statement_layer (s.Fail at) = record { takes = λ m. omega arith }

    statement_case : (y : s.Statement-F S) → StatementTakes (roll-Statement (pieces y))
    statement_case y = record {
      takes = λ m.
          ap (λ w. (w m).1) (statement_numbers start locals (roll-Statement (pieces y)) (pieces y) refl)
          ∙ (statement_layer y).takes m
          ∙ ap (λ k. m + length k) (sym (fold-roll-Statement (List ℕ) in_statement_step (pieces y)));
    }

  pub statement_takes : (x : Statement) → StatementTakes x
  statement_takes = ind-Statement StatementTakes (λ x y is. subst (λ z. StatementTakes (roll-Statement z)) is (statement_case _ (λ k. k.0) (λ k. k.1) y))

  pub block_takes : (xs : List Statement) → Takes (block_of start locals xs) (length (flat_map in_statement xs))
  block_takes = takes_in_turn (statement_of start locals) in_statement statement_takes

  -- an other block that may not be there
  abbrev pub other_of : Option (List Statement) → Numbered (List NumberedStatement)
  other_of None = siteless []
  other_of (Some xs) = block_of start locals xs

  abbrev pub in_other : Option (List Statement) → List ℕ
  in_other None = []
  in_other (Some xs) = flat_map in_statement xs

  pub other_takes : (x : Option (List Statement)) → Takes (other_of x) (length (in_other x))
  other_takes None = record { takes = λ m. omega arith }
  other_takes (Some xs) = block_takes xs

  pub result_takes : (x : Option Return) → Takes (result_of start locals x) (length (in_result x))
  result_takes None = record { takes = λ m. omega arith }
  result_takes (Some x) = record { takes = λ m. (expression_takes x.value).takes m }

-- ---- methods

pub method_takes : (start : Start) (m : Method) → Takes (method_of start m) (length (in_method m))
method_takes start m = record {
  takes = λ n.
      let b = (block_takes start (locals_of m) m.body).takes n in
      let r = (result_takes start (locals_of m) m.result).takes (block_of start (locals_of m) m.body n).1 in
      let size = both_sizes (flat_map in_statement m.body) (in_result m.result) in
      omega (arith, b, r, size);
}

pub methods_take : (start : Start) (ms : List Method) → Takes (methods_of start ms) (length (flat_map in_method ms))
methods_take start = takes_in_turn (method_of start) in_method (method_takes start)
