-- Methods with numbers for names.
--
-- Sites are numbered from 0 over the whole program, in the order of the text. So what may have sites is numbered in
-- turn, from the number of the next site.
use Rattle.std.specs.Prelude.{ℕ, suc, List, [], ◌∷◌, map, length, option_map, Option, Some, None}
use Rattle.fab_tree.specs.declared.expression.Operator.{Operator}
use Rattle.fab_tree.specs.declared.expression.Expression.{Expression, Expression-F, fold-Expression}
use Rattle.fab_tree.specs.declared.expression.Form.{Form, fold-Form}
use Rattle.fab_tree.specs.declared.expression.Form.TheOpen as f
use Rattle.fab_tree.specs.declared.expression.Operand.{Operand, Operand-F, fold-Operand}
use Rattle.fab_tree.specs.declared.statement.Right.{Right}
use Rattle.fab_tree.specs.declared.statement.Right.TheVariants as rights
use Rattle.fab_tree.specs.declared.statement.Statement.{Statement, fold-Statement}
use Rattle.fab_tree.specs.declared.statement.Statement.TheOpen as s
use Rattle.fab_tree.specs.declared.program.Parameter.{Parameter}
use Rattle.fab_tree.specs.declared.program.Returns.{Returns}
use Rattle.fab_tree.specs.declared.program.Return.{Return}
use Rattle.fab_tree.specs.declared.program.Method.{Method}
use Rattle.fab_tree.specs.declared.start.Start.{Start}
use Rattle.fab_tree.specs.declared.resolved.Expression.{Expression as NumberedExpression, roll-Expression as roll-NumberedExpression}
use Rattle.fab_tree.specs.declared.resolved.Form.{Form as NumberedForm}
use Rattle.fab_tree.specs.declared.resolved.Form.TheVariants as nf
use Rattle.fab_tree.specs.declared.resolved.Operand.{Operand as NumberedOperand, roll-Operand as roll-NumberedOperand}
use Rattle.fab_tree.specs.declared.resolved.Right.{Right as NumberedRight}
use Rattle.fab_tree.specs.declared.resolved.Right.TheVariants as nr
use Rattle.fab_tree.specs.declared.resolved.Statement.{Statement as NumberedStatement}
use Rattle.fab_tree.specs.declared.resolved.Statement.TheVariants as ns
use Rattle.fab_tree.specs.declared.resolved.Local.{Local as NumberedLocal}
use Rattle.fab_tree.specs.declared.resolved.Returns.{Returns as NumberedReturns}
use Rattle.fab_tree.specs.declared.resolved.Return.{Return as NumberedReturn}
use Rattle.fab_tree.specs.declared.resolved.Method.{Method as NumberedMethod}
use Rattle.fab_tree.specs.Limits.{locals_of}
use Rattle.fab_language.specs.Uses.{principal_use, node_use, label_use, class_use, method_use, sort_of, local_number, local_use, field_number}

-- ---- what is numbered in turn

-- from the number of the next site, what is made and the number of the next site behind it
abbrev pub Numbered : Type 0 → Type 0
Numbered A = ℕ → A × ℕ

-- what has no site
abbrev pub siteless : {A : Type 0} → A → Numbered A
siteless a n = (a, n)

-- what is made of one part
abbrev pub made_of : {A B : Type 0} → (A → B) → Numbered A → Numbered B
made_of f m n = let a = m n in (f a.0, a.1)

-- what is made of two parts or three, each behind the one before it
abbrev pub made_of_two : {A B C : Type 0} → (A → B → C) → Numbered A → Numbered B → Numbered C
made_of_two f m k n = let a = m n in let b = k a.1 in (f a.0 b.0, b.1)

abbrev pub made_of_three : {A B C D : Type 0} → (A → B → C → D) → Numbered A → Numbered B → Numbered C → Numbered D
made_of_three f m k l n = let a = m n in let b = k a.1 in let c = l b.1 in (f a.0 b.0 c.0, c.1)

-- what has a site of its own, before those of its part
abbrev pub at_site : {A B : Type 0} → (ℕ → A → B) → Numbered A → Numbered B
at_site f m n = let a = m (suc n) in (f n a.0, a.1)

abbrev pub in_turn : {A : Type 0} → List (Numbered A) → Numbered (List A)
in_turn [] n = ([], n)
in_turn (m ∷ ms) n = let a = m n in let b = in_turn ms a.1 in (a.0 ∷ b.0, b.1)

-- ---- expressions

abbrev pub expression_at : ℕ → NumberedForm → NumberedExpression
expression_at at form = roll-NumberedExpression (record { form = form; at = at })

abbrev pub operand_at : ℕ → Operator → NumberedExpression → NumberedOperand
operand_at at operator e = roll-NumberedOperand (record { operator = operator; at = at; operand = e })

module _ (start : Start) (locals : List Parameter) where
  abbrev pub form_step : f.Form-F (Numbered NumberedForm) (Numbered NumberedExpression) (Numbered NumberedOperand) → Numbered NumberedForm
  form_step (f.Number k) = siteless (nf.Number k)
  form_step f.Null = siteless nf.Null
  form_step (f.Local x) = siteless (nf.Local (local_use locals x))
  form_step (f.Read x y) = λ n. (nf.Read (local_use locals x) (field_number start locals x y) n, suc n)
  form_step (f.Unary o e) = made_of (nf.Unary o) e
  form_step (f.Chain e others) = made_of_two nf.Chain e (in_turn others)
  form_step (f.Compared e c g) = made_of_two (λ x y. nf.Compared x c y) e g

  abbrev pub expression_step : Expression-F (Numbered NumberedForm) (Numbered NumberedExpression) (Numbered NumberedOperand) → Numbered NumberedExpression
  expression_step e = made_of (expression_at e.at) e.form

  abbrev pub operand_step : Operand-F (Numbered NumberedForm) (Numbered NumberedExpression) (Numbered NumberedOperand) → Numbered NumberedOperand
  operand_step u = made_of (operand_at u.at u.operator) u.operand

  abbrev pub form_of : Form → Numbered NumberedForm
  form_of =
      fold-Form (Numbered NumberedForm) (Numbered NumberedExpression) (Numbered NumberedOperand) form_step expression_step operand_step

  abbrev pub expression_of : Expression → Numbered NumberedExpression
  expression_of =
      fold-Expression (Numbered NumberedForm) (Numbered NumberedExpression) (Numbered NumberedOperand) form_step expression_step operand_step

  abbrev pub operand_of : Operand → Numbered NumberedOperand
  operand_of =
      fold-Operand (Numbered NumberedForm) (Numbered NumberedExpression) (Numbered NumberedOperand) form_step expression_step operand_step

  abbrev pub expressions_of : List Expression → Numbered (List NumberedExpression)
  expressions_of es = in_turn (map expression_of es)

  -- ---- statements

  -- a new object and a downgrade have their sites at their keywords
  abbrev pub right_of : Right → Numbered NumberedRight
  right_of (rights.Plain e) = made_of nr.Plain (expression_of e)
  right_of (rights.Call x es) = made_of (nr.Call (method_use start x)) (expressions_of es)
  right_of (rights.New x y es at) = at_site (λ n vs. nr.New (class_use start x) (node_use start y) vs n at) (expressions_of es)
  right_of (rights.Downgrade d e x y at) = at_site (λ n v. nr.Downgrade d v (label_use start x) (label_use start y) n at) (expression_of e)

  -- a missing other block is an empty one
  abbrev pub otherwise_of : Option (List (Numbered NumberedStatement)) → Numbered (List NumberedStatement)
  otherwise_of None = siteless []
  otherwise_of (Some block) = in_turn block

  -- A declaration is the assignment of its value. A write has its site at the object's name, before those of what is written.
  abbrev pub statement_step : s.Statement-F (Numbered NumberedStatement) → Numbered NumberedStatement
  statement_step (s.Declare t x l e at) = made_of (λ v. ns.Assign (local_number locals x) (nr.Plain v) at) (expression_of e)
  statement_step (s.Assign x r) = made_of (λ v. ns.Assign (local_number locals x) v x.at) (right_of r)
  statement_step (s.Write x y e) = at_site (λ n v. ns.Write (local_use locals x) (field_number start locals x y) v n) (expression_of e)
  statement_step (s.Call x es) = made_of (ns.Call (method_use start x)) (expressions_of es)
  statement_step (s.If e block otherwise) = made_of_three ns.If (expression_of e) (in_turn block) (otherwise_of otherwise)
  statement_step (s.While e block) = made_of_two ns.While (expression_of e) (in_turn block)
  statement_step (s.Atomic x block otherwise at) =
      made_of_two (λ b o. ns.Atomic (label_use start x) b o at) (in_turn block) (in_turn otherwise)
  statement_step (s.Fail at) = siteless (ns.Fail at)

  abbrev pub statement_of : Statement → Numbered NumberedStatement
  statement_of = fold-Statement (Numbered NumberedStatement) statement_step

  abbrev pub block_of : List Statement → Numbered (List NumberedStatement)
  block_of xs = in_turn (map statement_of xs)

  abbrev pub result_of : Option Return → Numbered (Option NumberedReturn)
  result_of None = siteless None
  result_of (Some x) = made_of (λ v. Some (record { value = v; at = x.at })) (expression_of x.value)

-- ---- methods

abbrev pub numbered_local : Start → Parameter → NumberedLocal
numbered_local start x = record { sort = sort_of start x.sort; name = x.name; label = label_use start x.label }

abbrev pub returns_of : Start → Returns → NumberedReturns
returns_of start x = record { sort = sort_of start x.sort; label = label_use start x.label }

-- a method with this body and this result
abbrev pub method_with : Start → Method → List NumberedStatement → Option NumberedReturn → NumberedMethod
method_with start m body result = record {
  name = m.name;
  parameters = length m.parameters;
  locals = map (numbered_local start) (locals_of m);
  returns = option_map (returns_of start) m.returns;
  begin = label_use start m.begin;
  fails = m.fails;
  authority = map (principal_use start) m.authority;
  body = body;
  result = result;
}

abbrev pub method_of : Start → Method → Numbered NumberedMethod
method_of start m =
    made_of_two (method_with start m) (block_of start (locals_of m) m.body) (result_of start (locals_of m) m.result)

-- the sites of each method come behind those of the methods before it
abbrev pub methods_of : Start → List Method → Numbered (List NumberedMethod)
methods_of start ms = in_turn (map (method_of start) ms)
