-- What is shown of each form of an expression, and the form without places.
use Rattle.std.proofs.Common.{◌≡◌, ℕ, List, map, sym, ap, ◌∙◌}
use Rattle.fab_tree.specs.declared.name.Name.{Name}
use Rattle.fab_tree.specs.declared.expression.Operator.{Operator}
use Rattle.fab_tree.specs.declared.expression.Comparison.{Comparison}
use Rattle.fab_tree.specs.declared.expression.Expression.{Expression, out-Expression, fold-roll-Expression, roll-out-Expression}
use Rattle.fab_tree.specs.declared.expression.Form.{Form, roll-Form, map-Form, fold-Form, fold-roll-Form}
use Rattle.fab_tree.specs.declared.expression.Form.TheVariants as f
use Rattle.fab_tree.specs.declared.expression.Form.TheOpen as o
use Rattle.fab_tree.specs.declared.expression.Operand.{Operand, fold-Operand, fold-roll-Operand}
use Rattle.fab_tree.specs.Expressions.{expression_at, operand_at, placed}
use Rattle.fab_tree.specs.Print.{Shown, ShownOperand, shown, shown_form, shown_chain, shown_number}
use Rattle.fab_tree.specs.Unplaced as unplaced
use Rattle.fab_tree.specs.declared.expression.Number.{Number}
use Rattle.fab_tree.specs.declared.expression.UnaryOperator.{UnaryOperator}

-- ---- shown

abbrev pub shape : Form → Shown
shape = fold-Form Shown Shown ShownOperand shown_form (λ e. e.form) (λ u. record { operator = u.operator; operand = u.operand })

abbrev pub beside : Operand → ShownOperand
beside = fold-Operand Shown Shown ShownOperand shown_form (λ e. e.form) (λ u. record { operator = u.operator; operand = u.operand })

pub shown_at : (at : ℕ) (x : Form) → shown (expression_at at x) ≡ shape x
shown_at at x =
    fold-roll-Expression Shown Shown ShownOperand shown_form (λ e. e.form) (λ u. record { operator = u.operator; operand = u.operand })
    (record { form = x; at = at })

-- brackets change nothing
pub shown_placed : (at : ℕ) (t : Expression) → shown (placed at t) ≡ shown t
shown_placed at t =
    shown_at at (out-Expression t).form ∙ sym (shown_at (out-Expression t).at (out-Expression t).form) ∙ ap shown (roll-out-Expression t)

pub beside_at : (at : ℕ) (x : Operator) (t : Expression) → beside (operand_at at x t) ≡ record { operator = x; operand = shown t }
beside_at at x t =
    fold-roll-Operand Shown Shown ShownOperand shown_form (λ e. e.form) (λ u. record { operator = u.operator; operand = u.operand })
    (record { operator = x; at = at; operand = t })

shape_of : (d : o.Form-F Form Expression Operand) (x : Form) → roll-Form d ≡ x → shape x ≡ shown_form (map-Form Form Expression Operand Shown Shown ShownOperand shape shown beside d)
shape_of d x e =
    ap shape (sym e)
    ∙ fold-roll-Form Shown Shown ShownOperand shown_form (λ e. e.form) (λ u. record { operator = u.operator; operand = u.operand }) d

pub number_shape : (n : Number) → shape (f.Number n) ≡ shown_number n
number_shape n = shape_of (o.Number n) _ (f.rolls-Number n)

pub null_shape : shape f.Null ≡ shown_form o.Null
null_shape = shape_of o.Null _ f.rolls-Null

pub local_shape : (x : Name) → shape (f.Local x) ≡ shown_form (o.Local x)
local_shape x = shape_of (o.Local x) _ (f.rolls-Local x)

pub read_shape : (x y : Name) → shape (f.Read x y) ≡ shown_form (o.Read x y)
read_shape x y = shape_of (o.Read x y) _ (f.rolls-Read x y)

pub unary_shape : (x : UnaryOperator) (t : Expression) → shape (f.Unary x t) ≡ shown_form (o.Unary x (shown t))
unary_shape x t = shape_of (o.Unary x t) _ (f.rolls-Unary x t)

pub chain_shape : (t : Expression) (us : List Operand) → shape (f.Chain t us) ≡ shown_chain (shown t) (map beside us)
chain_shape t us = shape_of (o.Chain t us) _ (f.rolls-Chain t us)

pub compared_shape : (t : Expression) (c : Comparison) (u : Expression) → shape (f.Compared t c u) ≡ shown_form (o.Compared (shown t) c (shown u))
compared_shape t c u = shape_of (o.Compared t c u) _ (f.rolls-Compared t c u)

-- ---- without places

abbrev pub stripped : Form → Form
stripped = fold-Form Form Expression Operand unplaced.form_step (λ e. expression_at 0 e.form) (λ u. operand_at 0 u.operator u.operand)

abbrev pub stripped_operand : Operand → Operand
stripped_operand = fold-Operand Form Expression Operand unplaced.form_step (λ e. expression_at 0 e.form) (λ u. operand_at 0 u.operator u.operand)

pub unplaced_at : (at : ℕ) (x : Form) → unplaced.expression (expression_at at x) ≡ expression_at 0 (stripped x)
unplaced_at at x =
    fold-roll-Expression Form Expression Operand unplaced.form_step (λ e. expression_at 0 e.form) (λ u. operand_at 0 u.operator u.operand)
    (record { form = x; at = at })

pub unplaced_placed : (at : ℕ) (t : Expression) → unplaced.expression (placed at t) ≡ unplaced.expression t
unplaced_placed at t =
    unplaced_at at (out-Expression t).form ∙ sym (unplaced_at (out-Expression t).at (out-Expression t).form)
    ∙ ap unplaced.expression (roll-out-Expression t)

pub stripped_at : (at : ℕ) (x : Operator) (t : Expression) → stripped_operand (operand_at at x t) ≡ operand_at 0 x (unplaced.expression t)
stripped_at at x t =
    fold-roll-Operand Form Expression Operand unplaced.form_step (λ e. expression_at 0 e.form) (λ u. operand_at 0 u.operator u.operand)
    (record { operator = x; at = at; operand = t })

stripped_of : (d : o.Form-F Form Expression Operand) (x : Form) → roll-Form d ≡ x → stripped x ≡ unplaced.form_step (map-Form Form Expression Operand Form Expression Operand stripped unplaced.expression stripped_operand d)
stripped_of d x e =
    ap stripped (sym e)
    ∙ fold-roll-Form Form Expression Operand unplaced.form_step (λ e. expression_at 0 e.form) (λ u. operand_at 0 u.operator u.operand) d

pub number_stripped : (n : Number) → stripped (f.Number n) ≡ f.Number n
number_stripped n = stripped_of (o.Number n) _ (f.rolls-Number n)

pub null_stripped : stripped f.Null ≡ f.Null
null_stripped = stripped_of o.Null _ f.rolls-Null

pub local_stripped : (x : Name) → stripped (f.Local x) ≡ f.Local (unplaced.name x)
local_stripped x = stripped_of (o.Local x) _ (f.rolls-Local x)

pub read_stripped : (x y : Name) → stripped (f.Read x y) ≡ f.Read (unplaced.name x) (unplaced.name y)
read_stripped x y = stripped_of (o.Read x y) _ (f.rolls-Read x y)

pub unary_stripped : (x : UnaryOperator) (t : Expression) → stripped (f.Unary x t) ≡ f.Unary x (unplaced.expression t)
unary_stripped x t = stripped_of (o.Unary x t) _ (f.rolls-Unary x t)

pub chain_stripped : (t : Expression) (us : List Operand) → stripped (f.Chain t us) ≡ f.Chain (unplaced.expression t) (map stripped_operand us)
chain_stripped t us = stripped_of (o.Chain t us) _ (f.rolls-Chain t us)

pub compared_stripped : (t : Expression) (c : Comparison) (u : Expression) → stripped (f.Compared t c u) ≡ f.Compared (unplaced.expression t) c (unplaced.expression u)
compared_stripped t c u = stripped_of (o.Compared t c u) _ (f.rolls-Compared t c u)
