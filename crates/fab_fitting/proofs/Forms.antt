-- The numbers in expressions and statements, by their forms.
use Rattle.std.proofs.Common.{◌≡◌, ℕ, List, [], ◌∷◌, ◌++◌, map, refl, sym, ap, ◌∙◌, subst}
use Rattle.std.specs.List.{flat_map}
use Rattle.fab_tree.specs.declared.expression.Comparison.{Comparison}
use Rattle.fab_tree.specs.declared.resolved.Expression.{Expression, fold-roll-Expression, roll-out-Expression, out-Expression}
use Rattle.fab_tree.specs.declared.resolved.Form.{Form, fold-roll-Form, fold-Form, map-Form, roll-Form}
use Rattle.fab_tree.specs.declared.resolved.Form.TheVariants as kinds
use Rattle.fab_tree.specs.declared.resolved.Form.TheOpen as f
use Rattle.fab_tree.specs.declared.resolved.Operand.{Operand, fold-roll-Operand, fold-Operand, roll-out-Operand, out-Operand}
use Rattle.fab_tree.specs.declared.resolved.Statement.{Statement, fold-roll-Statement, map-Statement, roll-Statement}
use Rattle.fab_tree.specs.declared.resolved.Statement.TheVariants as statements
use Rattle.fab_tree.specs.declared.resolved.Statement.TheOpen as s
use Rattle.fab_tree.specs.declared.resolved.Use.{Use}
use Rattle.fab_settings.specs.Numbers.{AllFit, all_of, in_block, in_expression, in_expressions, in_form, in_statement, in_statement_step}
use Rattle.fab_fitting.proofs.Lists.{joined}
use Rattle.fab_base.specs.declared.object.Value.{Value}

abbrev in_a_form : Form → List Value
in_a_form = fold-Form (List Value) (List Value) (List Value) in_form (λ e. e.form) (λ u. u.operand)

abbrev in_an_operand : Operand → List Value
in_an_operand = fold-Operand (List Value) (List Value) (List Value) in_form (λ e. e.form) (λ u. u.operand)

-- the numbers in an operand behind the first
abbrev pub in_operand : Operand → List Value
in_operand u = in_expression (out-Operand u).operand

-- an expression has the numbers of its form
by_form : (x : Expression) → in_expression x ≡ in_a_form (out-Expression x).form
by_form x =
    ap in_expression (sym (roll-out-Expression x))
    ∙ fold-roll-Expression (List Value) (List Value) (List Value) in_form (λ e. e.form) (λ u. u.operand) (out-Expression x)

by_operand : (x : Operand) → in_an_operand x ≡ in_operand x
by_operand x =
    ap in_an_operand (sym (roll-out-Operand x))
    ∙ fold-roll-Operand (List Value) (List Value) (List Value) in_form (λ e. e.form) (λ u. u.operand) (out-Operand x)

-- and so those of its parts
by_parts : (x : Expression) (y : f.Form-F Form Expression Operand) (z : Form) → (out-Expression x).form ≡ z → z ≡ roll-Form y
    → in_expression x ≡ in_form (map-Form Form Expression Operand (List Value) (List Value) (List Value) in_a_form in_expression in_an_operand y)
by_parts x y z is rolls = by_form x ∙ ap in_a_form (is ∙ rolls) ∙ fold-roll-Form (List Value) (List Value) (List Value) in_form (λ e. e.form) (λ u. u.operand) y

in_operands : (us : List Operand) → all_of (map in_an_operand us) ≡ flat_map in_operand us
in_operands [] = refl
in_operands (u ∷ us) =
    ap (λ (ns : List Value). ns ++ all_of (map in_an_operand us)) (by_operand u)
    ∙ ap (λ (ns : List Value). in_operand u ++ ns) (in_operands us)

pub chain_fits : (x e : Expression) (us : List Operand) → (out-Expression x).form ≡ kinds.Chain e us
    → AllFit (in_expression e) → AllFit (flat_map in_operand us) → AllFit (in_expression x)
chain_fits x e us is first others =
    let parts : in_expression x ≡ in_expression e ++ all_of (map in_an_operand us) = by_parts x (f.Chain e us) _ is (sym (kinds.rolls-Chain e us)) in
    subst AllFit (sym (parts ∙ ap (λ (ns : List Value). in_expression e ++ ns) (in_operands us))) (joined _ _ first others)

pub compared_fits : (x e g : Expression) (c : Comparison) → (out-Expression x).form ≡ kinds.Compared e c g
    → AllFit (in_expression e) → AllFit (in_expression g) → AllFit (in_expression x)
compared_fits x e g c is left right = subst AllFit (sym (by_parts x (f.Compared e c g) _ is (sym (kinds.rolls-Compared e c g)))) (joined _ _ left right)

-- ---- statements

-- the numbers of a statement fit where those of its parts do
by_layer : (x z : Statement) (y : s.Statement-F Statement) → x ≡ z → z ≡ roll-Statement y
    → AllFit (in_statement_step (map-Statement Statement (List Value) in_statement y)) → AllFit (in_statement x)
by_layer x z y is rolls h = subst AllFit (sym (ap in_statement (is ∙ rolls) ∙ fold-roll-Statement (List Value) in_statement_step y)) h

pub call_fits : (x : Statement) (m : Use) (es : List Expression) → x ≡ statements.Call m es → AllFit (in_expressions es) → AllFit (in_statement x)
call_fits x m es is h = by_layer x _ (s.Call m es) is (sym (statements.rolls-Call m es)) h

pub if_fits : (x : Statement) (e : Expression) (block otherwise : List Statement) → x ≡ statements.If e block otherwise
    → AllFit (in_expression e) → AllFit (in_block block) → AllFit (in_block otherwise) → AllFit (in_statement x)
if_fits x e block otherwise is test first second =
    by_layer x _ (s.If e block otherwise) is (sym (statements.rolls-If e block otherwise)) (joined _ _ (joined _ _ test first) second)

pub while_fits : (x : Statement) (e : Expression) (block : List Statement) → x ≡ statements.While e block
    → AllFit (in_expression e) → AllFit (in_block block) → AllFit (in_statement x)
while_fits x e block is test inner = by_layer x _ (s.While e block) is (sym (statements.rolls-While e block)) (joined _ _ test inner)

pub atomic_fits : (x : Statement) (l : Use) (block otherwise : List Statement) (at : ℕ) → x ≡ statements.Atomic l block otherwise at
    → AllFit (in_block block) → AllFit (in_block otherwise) → AllFit (in_statement x)
atomic_fits x l block otherwise at is first second =
    by_layer x _ (s.Atomic l block otherwise at) is (sym (statements.rolls-Atomic l block otherwise at)) (joined _ _ first second)
