-- What each form owes, and the sites in it, from its parts.
use Rattle.std.proofs.Common.{◌≡◌, ℕ, List, ◌∙◌}
use Rattle.fab_tree.specs.declared.expression.Operator.{Operator}
use Rattle.fab_tree.specs.declared.resolved.Class.{Class}
use Rattle.fab_tree.specs.declared.resolved.Local.{Local}
use Rattle.fab_tree.specs.declared.resolved.Method.{Method}
use Rattle.fab_tree.specs.declared.resolved.Expression.{Expression, roll-Expression, fold-roll-Expression}
use Rattle.fab_tree.specs.declared.resolved.Form.{Form, roll-Form, fold-Form, fold-roll-Form, map-Form}
use Rattle.fab_tree.specs.declared.resolved.Form.TheOpen as f
use Rattle.fab_tree.specs.declared.resolved.Operand.{Operand, roll-Operand, fold-Operand, fold-roll-Operand}
use Rattle.fab_tree.specs.declared.resolved.Statement.{Statement, roll-Statement, fold-roll-Statement, map-Statement}
use Rattle.fab_tree.specs.declared.resolved.Statement.TheOpen as s
use Rattle.fab_labelling.specs.Obligations.{Part, Tail, form_step, part, Owes, statement_step, statement_owes}
use Rattle.fab_labelling.specs.Claims.{called_step, called_in}
use Rattle.fab_labelling.specs.Sites.{Sited, form_sites, sites_in, statement_sites, sited}

-- an expression of one layer, which begins at a place
abbrev pub expression_at : ℕ → f.Form-F Form Expression Operand → Expression
expression_at at layer = roll-Expression (record { form = roll-Form layer; at = at })

-- an operand of a chain behind an operator at a place
abbrev pub operand_at : ℕ → Operator → Expression → Operand
operand_at at operator e = roll-Operand (record { operator = operator; at = at; operand = e })

abbrev tail : Operator → ℕ → Part → Tail
tail operator at p = record { operator = operator; at = at; part = p }

module _ (classes : List Class) (locals : List Local) where
  abbrev pub form_part : Form → Part
  form_part = fold-Form Part Part Tail (form_step classes locals) (λ e. e.form) (λ u. tail u.operator u.at u.operand)

  abbrev pub operand_part : Operand → Tail
  operand_part = fold-Operand Part Part Tail (form_step classes locals) (λ e. e.form) (λ u. tail u.operator u.at u.operand)

  pub part_is : (at : ℕ) (layer : f.Form-F Form Expression Operand) → part classes locals (expression_at at layer) ≡ form_step classes locals (map-Form Form Expression Operand Part Part Tail form_part (part classes locals) operand_part layer)
  part_is at layer =
      fold-roll-Expression Part Part Tail (form_step classes locals) (λ e. e.form) (λ u. tail u.operator u.at u.operand) (record { form = roll-Form layer; at = at })
      ∙ fold-roll-Form Part Part Tail (form_step classes locals) (λ e. e.form) (λ u. tail u.operator u.at u.operand) layer

  pub tail_is : (at : ℕ) (operator : Operator) (e : Expression) → operand_part (operand_at at operator e) ≡ tail operator at (part classes locals e)
  tail_is at operator e = fold-roll-Operand Part Part Tail (form_step classes locals) (λ x. x.form) (λ u. tail u.operator u.at u.operand) (record { operator = operator; at = at; operand = e })

  pub sited_is : (x : s.Statement-F Statement) → sited classes locals (roll-Statement x) ≡ statement_sites classes locals (map-Statement Statement (List ℕ → Sited) (sited classes locals) x)
  sited_is x = fold-roll-Statement (List ℕ → Sited) (statement_sites classes locals) x

module _ (classes : List Class) (methods : List Method) (locals : List Local) (authority : List ℕ) where
  pub owes_is : (x : s.Statement-F Statement) → statement_owes classes methods locals authority (roll-Statement x) ≡ statement_step classes methods locals authority (map-Statement Statement (Owes classes methods locals authority) (statement_owes classes methods locals authority) x)
  owes_is x = fold-roll-Statement (Owes classes methods locals authority) (statement_step classes methods locals authority) x

abbrev pub sites_in_form : Form → List ℕ
sites_in_form = fold-Form (List ℕ) (List ℕ) (List ℕ) form_sites (λ e. e.form) (λ u. u.operand)

abbrev pub sites_in_operand : Operand → List ℕ
sites_in_operand = fold-Operand (List ℕ) (List ℕ) (List ℕ) form_sites (λ e. e.form) (λ u. u.operand)

pub sites_are : (at : ℕ) (layer : f.Form-F Form Expression Operand) → sites_in (expression_at at layer) ≡ form_sites (map-Form Form Expression Operand (List ℕ) (List ℕ) (List ℕ) sites_in_form sites_in sites_in_operand layer)
sites_are at layer =
    fold-roll-Expression (List ℕ) (List ℕ) (List ℕ) form_sites (λ e. e.form) (λ u. u.operand) (record { form = roll-Form layer; at = at })
    ∙ fold-roll-Form (List ℕ) (List ℕ) (List ℕ) form_sites (λ e. e.form) (λ u. u.operand) layer

pub operand_sites : (at : ℕ) (operator : Operator) (e : Expression) → sites_in_operand (operand_at at operator e) ≡ sites_in e
operand_sites at operator e = fold-roll-Operand (List ℕ) (List ℕ) (List ℕ) form_sites (λ x. x.form) (λ u. u.operand) (record { operator = operator; at = at; operand = e })

pub called_is : (x : s.Statement-F Statement) → called_in (roll-Statement x) ≡ called_step (map-Statement Statement (List ℕ) called_in x)
called_is x = fold-roll-Statement (List ℕ) called_step x
