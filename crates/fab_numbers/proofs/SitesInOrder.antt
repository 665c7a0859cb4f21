-- Sites are numbered in the order of the text.
use Rattle.std.proofs.Common.{◌≡◌, ℕ, suc, ◌+◌, List, [], ◌∷◌, ◌++◌, map, length, Option, Some, None, refl, sym, ap, ◌∙◌, subst, arith, length-append}
use Rattle.std.specs.List.{flat_map, enumerate_from}
use Rattle.std.proofs.lemmas.List.Concat.{flat_map-cons}
use Rattle.fab_tree.specs.declared.expression.Operator.{Operator}
use Rattle.fab_tree.specs.declared.expression.Expression.{Expression, roll-Expression, ind-Expression, fold-roll-Expression}
use Rattle.fab_tree.specs.declared.expression.Form.{Form, roll-Form, map-Form, fold-roll-Form}
use Rattle.fab_tree.specs.declared.expression.Form.TheOpen as f
use Rattle.fab_tree.specs.declared.expression.Operand.{Operand, fold-roll-Operand}
use Rattle.fab_tree.specs.declared.statement.Right.{Right}
use Rattle.fab_tree.specs.declared.statement.Right.TheVariants as rights
use Rattle.fab_tree.specs.declared.statement.Statement.{Statement, roll-Statement, map-Statement, ind-Statement, fold-roll-Statement}
use Rattle.fab_tree.specs.declared.statement.Statement.TheOpen as s
use Rattle.fab_tree.specs.declared.program.Parameter.{Parameter}
use Rattle.fab_tree.specs.declared.program.Return.{Return}
use Rattle.fab_tree.specs.declared.program.Method.{Method}
use Rattle.fab_tree.specs.declared.start.Start.{Start}
use Rattle.fab_tree.specs.declared.resolved.Expression.{Expression as NumberedExpression, fold-roll-Expression as fold-roll-NumberedExpression}
use Rattle.fab_tree.specs.declared.resolved.Form.{Form as NumberedForm, roll-Form as roll-NumberedForm, map-Form as map-NumberedForm, fold-Form as fold-NumberedForm, fold-roll-Form as fold-roll-NumberedForm}
use Rattle.fab_tree.specs.declared.resolved.Form.TheVariants as nf
use Rattle.fab_tree.specs.declared.resolved.Form.TheOpen as nfo
use Rattle.fab_tree.specs.declared.resolved.Operand.{Operand as NumberedOperand, fold-Operand as fold-NumberedOperand, fold-roll-Operand as fold-roll-NumberedOperand}
use Rattle.fab_tree.specs.declared.resolved.Statement.{Statement as NumberedStatement, roll-Statement as roll-NumberedStatement, map-Statement as map-NumberedStatement, fold-roll-Statement as fold-roll-NumberedStatement}
use Rattle.fab_tree.specs.declared.resolved.Statement.TheVariants as ns
use Rattle.fab_tree.specs.declared.resolved.Statement.TheOpen as nso
use Rattle.fab_tree.specs.declared.resolved.Right.TheVariants as nr
use Rattle.fab_tree.specs.Expressions.{expression_at, operand_at}
use Rattle.fab_tree.specs.Limits.{locals_of}
use Rattle.fab_tree.specs.Sites.{joined, in_form, in_expression, in_expressions, in_right, in_statement, in_statement_step, in_result, in_method}
use Rattle.fab_language.specs.Uses.{local_use, field_number, local_number, label_use, class_use, node_use, method_use}
use Rattle.fab_language.specs.MethodNumbers as n
use Rattle.fab_language.specs.MethodNumbers.{Numbered, siteless, made_of_two, in_turn, form_step, form_of, expression_of, operand_of, expressions_of, right_of, statement_step, statement_of, block_of, result_of, method_of, methods_of}
use Rattle.fab_language.proofs.NumberedForms.{expression_numbers, operand_numbers, form_numbers, statement_numbers}
use Rattle.fab_numbers.specs.SiteOrder.{Sites, all_of, of_form, of_expression, of_expressions, of_right, of_statement_step, of_statement, of_result, of_method, of_methods}
use Rattle.fab_numbers.proofs.SitesTaken.{in_part, in_operand}

-- ---- what takes the sites of these places, in this order

pub record Orders {A : Type 0} (m : Numbered A) (sites : A → Sites) (places : List ℕ) : Type 0 where
  pub order : (k : ℕ) → sites (m k).0 ≡ enumerate_from k places
  pub takes : (k : ℕ) → (m k).1 ≡ k + length places

enumerate_append : (k : ℕ) (xs ys : List ℕ) → enumerate_from k (xs ++ ys) ≡ enumerate_from k xs ++ enumerate_from (k + length xs) ys
enumerate_append k [] ys = ap (λ j. enumerate_from j ys) (omega arith)
enumerate_append k (x ∷ xs) ys =
    ap (λ l. (k, x) ∷ l) (enumerate_append (k + 1) xs ys ∙ ap (λ j. enumerate_from (k + 1) xs ++ enumerate_from j ys) (omega arith))

abbrev pub paired : {A B : Type 0} → A → B → A × B
paired a b = (a, b)

module _ {A B : Type 0} (m : Numbered A) (l : Numbered B) (sa : A → Sites) (sb : B → Sites) (p q : List ℕ) (o : Orders m sa p) (u : Orders l sb q) where
  pub both_order : (k : ℕ) → sa (m k).0 ++ sb (l (m k).1).0 ≡ enumerate_from k (p ++ q)
  both_order k =
      ap (λ w. w ++ sb (l (m k).1).0) (o.order k)
      ∙ ap (λ w. enumerate_from k p ++ w) (u.order (m k).1 ∙ ap (λ j. enumerate_from j q) (o.takes k))
      ∙ sym (enumerate_append k p q)

  pub both_take : (k : ℕ) → (l (m k).1).1 ≡ k + length (p ++ q)
  both_take k = let a = o.takes k in let b = u.takes (m k).1 in let c = length-append p q in omega (arith, a, b, c)

  pub orders_both : Orders {A = A × B} (made_of_two paired m l) (λ w. sa w.0 ++ sb w.1) (p ++ q)
  orders_both = record { order = both_order; takes = both_take }

-- lists of parts
module _ {K X Y : Type 0} (g : X → Numbered Y) (sites : Y → Sites) (places : X → List ℕ) (part : K → X) (each : (k : K) → Orders (g (part k)) sites (places (part k))) where
  pub parts_order : (ks : List K) → Orders (in_turn (map g (map part ks))) (λ ys. all_of (map sites ys)) (joined (map places (map part ks)))
  parts_order [] = record { order = λ k. refl; takes = λ k. omega arith }
  parts_order (x ∷ xs) =
      let rest = parts_order xs in
      let size = flat_map-cons (λ ps. ps) (places (part x)) (map places (map part xs)) in
      record {
        order = λ k.
            flat_map-cons (λ ps. ps) (sites (g (part x) k).0) (map sites (in_turn (map g (map part xs)) (g (part x) k).1).0)
            ∙ both_order (g (part x)) (in_turn (map g (map part xs))) sites (λ ys. all_of (map sites ys)) (places (part x)) (joined (map places (map part xs))) (each x) rest k
            ∙ ap (enumerate_from k) (sym size);
        takes = λ k.
            both_take (g (part x)) (in_turn (map g (map part xs))) sites (λ ys. all_of (map sites ys)) (places (part x)) (joined (map places (map part xs))) (each x) rest k
            ∙ ap (λ w. k + length w) (sym size);
      }

module _ {X Y : Type 0} (g : X → Numbered Y) (sites : Y → Sites) (places : X → List ℕ) (each : (x : X) → Orders (g x) sites (places x)) where
  pub turn_order : (xs : List X) → Orders (in_turn (map g xs)) (flat_map sites) (flat_map places xs)
  turn_order [] = record { order = λ k. refl; takes = λ k. omega arith }
  turn_order (x ∷ xs) =
      let rest = turn_order xs in
      let size = flat_map-cons places x xs in
      record {
        order = λ k.
            flat_map-cons sites (g x k).0 (in_turn (map g xs) (g x k).1).0
            ∙ both_order (g x) (in_turn (map g xs)) sites (flat_map sites) (places x) (flat_map places xs) (each x) rest k
            ∙ ap (enumerate_from k) (sym size);
        takes = λ k.
            both_take (g x) (in_turn (map g xs)) sites (flat_map sites) (places x) (flat_map places xs) (each x) rest k
            ∙ ap (λ w. k + length w) (sym size);
      }

-- ---- the sites of each form with numbers

abbrev of_part : NumberedForm → Sites
of_part = fold-NumberedForm Sites Sites Sites of_form (λ e. e.form) (λ u. u.operand)

abbrev of_operand : NumberedOperand → Sites
of_operand = fold-NumberedOperand Sites Sites Sites of_form (λ e. e.form) (λ u. u.operand)

part_is : (x : NumberedForm) (y : nfo.Form-F NumberedForm NumberedExpression NumberedOperand) → x ≡ roll-NumberedForm y → of_part x ≡ of_form (map-NumberedForm NumberedForm NumberedExpression NumberedOperand Sites Sites Sites of_part of_expression of_operand y)
part_is x y is = ap of_part is ∙ fold-roll-NumberedForm Sites Sites Sites of_form (λ e. e.form) (λ u. u.operand) y

statement_is : (x : NumberedStatement) (y : nso.Statement-F NumberedStatement) → x ≡ roll-NumberedStatement y → of_statement x ≡ of_statement_step (map-NumberedStatement NumberedStatement Sites of_statement y)
statement_is x y is = ap of_statement is ∙ fold-roll-NumberedStatement Sites of_statement_step y

module _ (start : Start) (locals : List Parameter) where
  -- ---- expressions

  abbrev FormOrders : Form → Type 0
  FormOrders x = Orders (form_of start locals x) of_part (in_part x)

  abbrev ExpressionOrders : Expression → Type 0
  ExpressionOrders x = Orders (expression_of start locals x) of_expression (in_expression x)

  abbrev OperandOrders : Operand → Type 0
  OperandOrders x = Orders (operand_of start locals x) of_operand (in_operand x)

  expression_case : (at : ℕ) (form : Form) → FormOrders form → ExpressionOrders (expression_at at form)
  expression_case at form o =
      let places = fold-roll-Expression (List ℕ) (List ℕ) (List ℕ) in_form (λ e. e.form) (λ u. u.operand) (record { form = form; at = at }) in
      record {
        order = λ k.
            ap (λ w. of_expression (w k).0) (expression_numbers start locals at form)
            ∙ fold-roll-NumberedExpression Sites Sites Sites of_form (λ e. e.form) (λ u. u.operand) (record { form = (form_of start locals form k).0; at = at })
            ∙ o.order k ∙ ap (enumerate_from k) (sym places);
        takes = λ k. ap (λ w. (w k).1) (expression_numbers start locals at form) ∙ o.takes k ∙ ap (λ w. k + length w) (sym places);
      }

  operand_case : (at : ℕ) (operator : Operator) (e : Expression) → ExpressionOrders e → OperandOrders (operand_at at operator e)
  operand_case at operator e o =
      let places = fold-roll-Operand (List ℕ) (List ℕ) (List ℕ) in_form (λ e. e.form) (λ u. u.operand) (record { operator = operator; at = at; operand = e }) in
      record {
        order = λ k.
            ap (λ w. of_operand (w k).0) (operand_numbers start locals at operator e)
            ∙ fold-roll-NumberedOperand Sites Sites Sites of_form (λ e. e.form) (λ u. u.operand) (record { operator = operator; at = at; operand = (expression_of start locals e k).0 })
            ∙ o.order k ∙ ap (enumerate_from k) (sym places);
        takes = λ k. ap (λ w. (w k).1) (operand_numbers start locals at operator e) ∙ o.takes k ∙ ap (λ w. k + length w) (sym places);
      }

  -- a form, whose parts are some for which this is known
  module _ (F E O : Type 0) (form : F → Form) (expression : E → Expression) (operand : O → Operand) (of_e : (k : E) → ExpressionOrders (expression k)) (of_o : (k : O) → OperandOrders (operand k)) where
    abbrev parts : f.Form-F F E O → f.Form-F Form Expression Operand
    parts = map-Form F E O Form Expression Operand form expression operand

    operands_order : (ks : List O) → Orders (in_turn (map (operand_of start locals) (map operand ks))) (λ ys. all_of (map of_operand ys)) (joined (map in_operand (map operand ks)))
    operands_order = parts_order (operand_of start locals) of_operand in_operand operand of_o

    form_layer : (y : f.Form-F F E O)
        → Orders (form_step start locals (map-Form Form Expression Operand (Numbered NumberedForm) (Numbered NumberedExpression) (Numbered NumberedOperand) (form_of start locals) (expression_of start locals) (operand_of start locals) (parts y))) of_part
        (in_form (map-Form Form Expression Operand (List ℕ) (List ℕ) (List ℕ) in_part in_expression in_operand (parts y)))
    form_layer (f.Number j) = record { order = λ k. part_is (nf.Number j) (nfo.Number j) (sym (nf.rolls-Number j)); takes = λ k. omega arith }
    form_layer f.Null = record { order = λ k. part_is nf.Null nfo.Null (sym nf.rolls-Null); takes = λ k. omega arith }
    form_layer (f.Local x) = record {
      order = λ k. part_is (nf.Local (local_use locals x)) (nfo.Local (local_use locals x)) (sym (nf.rolls-Local (local_use locals x)));
      takes = λ k. omega arith;
    }
    form_layer (f.Read x y) = record {
      order = λ k. part_is (nf.Read (local_use locals x) (field_number start locals x y) k) (nfo.Read (local_use locals x) (field_number start locals x y) k) (sym (nf.rolls-Read (local_use locals x) (field_number start locals x y) k));
      takes = λ k. omega arith;
    }
    form_layer (f.Unary o e) = record {
      order = λ k. let v = (expression_of start locals (expression e) k).0 in part_is (nf.Unary o v) (nfo.Unary o v) (sym (nf.rolls-Unary o v)) ∙ (of_e e).order k;
      takes = λ k. (of_e e).takes k;
    }
    form_layer (f.Chain e others) =
        let both = orders_both (expression_of start locals (expression e)) (in_turn (map (operand_of start locals) (map operand others))) of_expression (λ ys. all_of (map of_operand ys)) (in_expression (expression e)) (joined (map in_operand (map operand others))) (of_e e) (operands_order others) in
        record {
          order = λ k.
              let v = expression_of start locals (expression e) k in
              let vs = in_turn (map (operand_of start locals) (map operand others)) v.1 in
              part_is (nf.Chain v.0 vs.0) (nfo.Chain v.0 vs.0) (sym (nf.rolls-Chain v.0 vs.0)) ∙ both.order k;
          takes = λ k. both.takes k;
        }
    form_layer (f.Compared e c g) =
        let both = orders_both (expression_of start locals (expression e)) (expression_of start locals (expression g)) of_expression of_expression (in_expression (expression e)) (in_expression (expression g)) (of_e e) (of_e g) in
        record {
          order = λ k.
              let v = expression_of start locals (expression e) k in
              let w = expression_of start locals (expression g) v.1 in
              part_is (nf.Compared v.0 c w.0) (nfo.Compared v.0 c w.0) (sym (nf.rolls-Compared v.0 c w.0)) ∙ both.order k;
          takes = λ k. both.takes k;
        }

    form_case : (y : f.Form-F F E O) → FormOrders (roll-Form (parts y))
    form_case y =
        let made = form_numbers start locals (roll-Form (parts y)) (parts y) refl in
        let places = fold-roll-Form (List ℕ) (List ℕ) (List ℕ) in_form (λ e. e.form) (λ u. u.operand) (parts y) in
        record {
          order = λ k. ap (λ w. of_part (w k).0) made ∙ (form_layer y).order k ∙ ap (enumerate_from k) (sym places);
          takes = λ k. ap (λ w. (w k).1) made ∙ (form_layer y).takes k ∙ ap (λ w. k + length w) (sym places);
        }

  pub expression_orders : (x : Expression) → ExpressionOrders x
  expression_orders =
      ind-Expression FormOrders ExpressionOrders OperandOrders
      (λ x y is. subst (λ z. FormOrders (roll-Form z)) is (form_case _ _ _ (λ k. k.0) (λ k. k.0) (λ k. k.0) (λ k. k.1) (λ k. k.1) y))
      (λ x y is. subst (λ z. ExpressionOrders (roll-Expression z)) is (expression_case y.at y.form.0 y.form.1))
      (λ x y is. subst (λ z. OperandOrders (operand_at z.at z.operator z.operand)) is (operand_case y.at y.operator y.operand.0 y.operand.1))

  pub expressions_order : (xs : List Expression) → Orders (expressions_of start locals xs) of_expressions (in_expressions xs)
  expressions_order = turn_order (expression_of start locals) of_expression in_expression expression_orders

  -- ---- statements

  right_order : (x : Right) → Orders (right_of start locals x) of_right (in_right x)
  right_order (rights.Plain e) = record { order = λ k. (expression_orders e).order k; takes = λ k. (expression_orders e).takes k }
  right_order (rights.Call x es) = record { order = λ k. (expressions_order es).order k; takes = λ k. (expressions_order es).takes k }
  right_order (rights.New x y es at) = record {
    order = λ k. ap (λ l. (k, at) ∷ l) ((expressions_order es).order (suc k) ∙ ap (λ j. enumerate_from j (in_expressions es)) (omega arith));
    takes = λ k. let e = (expressions_order es).takes (suc k) in omega (arith, e);
  }
  right_order (rights.Downgrade d e x y at) = record {
    order = λ k. ap (λ l. (k, at) ∷ l) ((expression_orders e).order (suc k) ∙ ap (λ j. enumerate_from j (in_expression e)) (omega arith));
    takes = λ k. let h = (expression_orders e).takes (suc k) in omega (arith, h);
  }

  abbrev StatementOrders : Statement → Type 0
  StatementOrders x = Orders (statement_of start locals x) of_statement (in_statement x)

  abbrev of_block : List NumberedStatement → Sites
  of_block ys = all_of (map of_statement ys)

  module _ (S : Type 0) (statement : S → Statement) (of_s : (k : S) → StatementOrders (statement k)) where
    abbrev pieces : s.Statement-F S → s.Statement-F Statement
    pieces = map-Statement S Statement statement

    abbrev places_in : List S → List ℕ
    places_in ks = joined (map in_statement (map statement ks))

    abbrev blocks : List S → Numbered (List NumberedStatement)
    blocks ks = in_turn (map (statement_of start locals) (map statement ks))

    block_layer : (ks : List S) → Orders (blocks ks) of_block (places_in ks)
    block_layer = parts_order (statement_of start locals) of_statement in_statement statement of_s

    condition_layer : (e : Expression) (ks : List S) → Orders {A = NumberedExpression × List NumberedStatement} (made_of_two paired (expression_of start locals e) (blocks ks)) (λ w. of_expression w.0 ++ of_block w.1) (in_expression e ++ places_in ks)
    condition_layer e ks = orders_both (expression_of start locals e) (blocks ks) of_expression of_block (in_expression e) (places_in ks) (expression_orders e) (block_layer ks)

    no_other : Orders (siteless {A = List NumberedStatement} []) of_block []
    no_other = record { order = λ k. refl; takes = λ k. omega arith }

    statement_layer : (y : s.Statement-F S)
        → Orders (statement_step start locals (map-Statement Statement (Numbered NumberedStatement) (statement_of start locals) (pieces y))) of_statement
        (in_statement_step (map-Statement Statement (List ℕ) in_statement (pieces y)))
    statement_layer (s.Declare t x l e at) = record {
      order = λ k.
          let r = nr.Plain (expression_of start locals e k).0 in
          statement_is (ns.Assign (local_number locals x) r at) (nso.Assign (local_number locals x) r at) (sym (ns.rolls-Assign (local_number locals x) r at)) ∙ (expression_orders e).order k;
      takes = λ k. (expression_orders e).takes k;
    }
    statement_layer (s.Assign x r) = record {
      order = λ k.
          let v = (right_of start locals r k).0 in
          statement_is (ns.Assign (local_number locals x) v x.at) (nso.Assign (local_number locals x) v x.at) (sym (ns.rolls-Assign (local_number locals x) v x.at)) ∙ (right_order r).order k;
      takes = λ k. (right_order r).takes k;
    }
    statement_layer (s.Write x y e) = record {
      order = λ k.
          let v = (expression_of start locals e (suc k)).0 in
          statement_is (ns.Write (local_use locals x) (field_number start locals x y) v k) (nso.Write (local_use locals x) (field_number start locals x y) v k) (sym (ns.rolls-Write (local_use locals x) (field_number start locals x y) v k))
          ∙ ap (λ l. (k, x.at) ∷ l) ((expression_orders e).order (suc k) ∙ ap (λ j. enumerate_from j (in_expression e)) (omega arith));
      takes = λ k. let h = (expression_orders e).takes (suc k) in omega (arith, h);
    }
    statement_layer (s.Call x es) = record {
      order = λ k.
          let vs = (expressions_of start locals es k).0 in
          statement_is (ns.Call (method_use start x) vs) (nso.Call (method_use start x) vs) (sym (ns.rolls-Call (method_use start x) vs)) ∙ (expressions_order es).order k;
      takes = λ k. (expressions_order es).takes k;
    }
    statement_layer (s.If e block None) =
        let all = orders_both (made_of_two paired (expression_of start locals e) (blocks block)) (siteless {A = List NumberedStatement} []) (λ w. of_expression w.0 ++ of_block w.1) of_block (in_expression e ++ places_in block) [] (condition_layer e block) no_other in
        record {
          order = λ k.
              let c = expression_of start locals e k in
              let b = blocks block c.1 in
              statement_is (ns.If c.0 b.0 []) (nso.If c.0 b.0 []) (sym (ns.rolls-If c.0 b.0 [])) ∙ all.order k;
          takes = λ k. all.takes k;
        }
    statement_layer (s.If e block (Some other)) =
        let all = orders_both (made_of_two paired (expression_of start locals e) (blocks block)) (blocks other) (λ w. of_expression w.0 ++ of_block w.1) of_block (in_expression e ++ places_in block) (places_in other) (condition_layer e block) (block_layer other) in
        record {
          order = λ k.
              let c = expression_of start locals e k in
              let b = blocks block c.1 in
              let o = blocks other b.1 in
              statement_is (ns.If c.0 b.0 o.0) (nso.If c.0 b.0 o.0) (sym (ns.rolls-If c.0 b.0 o.0)) ∙ all.order k;
          takes = λ k. all.takes k;
        }
    statement_layer (s.While e block) =
        let all = condition_layer e block in
        record {
          order = λ k.
              let c = expression_of start locals e k in
              let b = blocks block c.1 in
              statement_is (ns.While c.0 b.0) (nso.While c.0 b.0) (sym (ns.rolls-While c.0 b.0)) ∙ all.order k;
          takes = λ k. all.takes k;
        }
    statement_layer (s.Atomic x block other at) =
        let all = orders_both (blocks block) (blocks other) of_block of_block (places_in block) (places_in other) (block_layer block) (block_layer other) in
        record {
          order = λ k.
              let b = blocks block k in
              let o = blocks other b.1 in
              statement_is (ns.Atomic (label_use start x) b.0 o.0 at) (nso.Atomic (label_use start x) b.0 o.0 at) (sym (ns.rolls-Atomic (label_use start x) b.0 o.0 at)) ∙ all.order k;
          takes = λ k. all.takes k;
        }
    statement_layer (s.Fail at) = record { order = λ k. statement_is (ns.Fail at) (nso.Fail at) (sym (ns.rolls-Fail at)); takes = λ k. omega arith }

    statement_case : (y : s.Statement-F S) → StatementOrders (roll-Statement (pieces y))
    statement_case y =
        let made = statement_numbers start locals (roll-Statement (pieces y)) (pieces y) refl in
        let places = fold-roll-Statement (List ℕ) in_statement_step (pieces y) in
        record {
          order = λ k. ap (λ w. of_statement (w k).0) made ∙ (statement_layer y).order k ∙ ap (enumerate_from k) (sym places);
          takes = λ k. ap (λ w. (w k).1) made ∙ (statement_layer y).takes k ∙ ap (λ w. k + length w) (sym places);
        }

  pub statement_orders : (x : Statement) → StatementOrders x
  statement_orders = ind-Statement StatementOrders (λ x y is. subst (λ z. StatementOrders (roll-Statement z)) is (statement_case _ (λ k. k.0) (λ k. k.1) y))

  pub block_orders : (xs : List Statement) → Orders (block_of start locals xs) (flat_map of_statement) (flat_map in_statement xs)
  block_orders = turn_order (statement_of start locals) of_statement in_statement statement_orders

  pub result_orders : (x : Option Return) → Orders (result_of start locals x) of_result (in_result x)
  result_orders None = record { order = λ k. refl; takes = λ k. omega arith }
  result_orders (Some x) = record { order = λ k. (expression_orders x.value).order k; takes = λ k. (expression_orders x.value).takes k }

-- ---- methods

pub method_orders : (start : Start) (m : Method) → Orders (method_of start m) of_method (in_method m)
method_orders start m =
    let all = orders_both (block_of start (locals_of m) m.body) (result_of start (locals_of m) m.result) (flat_map of_statement) of_result (flat_map in_statement m.body) (in_result m.result) (block_orders start (locals_of m) m.body) (result_orders start (locals_of m) m.result) in
    record { order = λ k. all.order k; takes = λ k. all.takes k }

pub methods_orders : (start : Start) (ms : List Method) → Orders (methods_of start ms) of_methods (flat_map in_method ms)
methods_orders start = turn_order (method_of start) of_method in_method (method_orders start)
