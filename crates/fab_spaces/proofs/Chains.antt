-- The names in an expression that aren't declared, by its parts.
use Rattle.std.proofs.Common.{◌≡◌, List, [], ◌∷◌, ◌++◌, map, Option, refl, sym, ap, ◌∙◌}
use Rattle.std.specs.List.{flat_map}
use Rattle.fab_tree.specs.declared.expression.Comparison.{Comparison}
use Rattle.fab_tree.specs.declared.expression.Expression.{Expression, fold_out-Expression, outs-Expression'}
use Rattle.fab_tree.specs.declared.expression.Form.{Form, fold-Form, fold-roll-Form}
use Rattle.fab_tree.specs.declared.expression.Form.TheVariants as forms
use Rattle.fab_tree.specs.declared.expression.Form.TheOpen as f
use Rattle.fab_tree.specs.declared.expression.Operand.{Operand, fold-Operand, fold_out-Operand, outs-Operand'}
use Rattle.fab_tree.specs.declared.start.Start.{Start}
use Rattle.fab_language.specs.declared.rule.Fault.{Fault}
use Rattle.fab_language.specs.Heads.{Locals}
use Rattle.fab_language.specs.Unknown.{in_form, in_expression}
use Rattle.fab_rules.specs.First.{first_from}
use Rattle.fab_rules.proofs.Firsts.{in_parts}

module _ (s : Start) (known : Locals) where
  of_form : Form → List Fault
  of_form = fold-Form (List Fault) (List Fault) (List Fault) (in_form s known) (λ e. e.form) (λ u. u.operand)

  abbrev of_operand : Operand → List Fault
  of_operand = fold-Operand (List Fault) (List Fault) (List Fault) (in_form s known) (λ e. e.form) (λ u. u.operand)

  by_form : (x : Expression) → in_expression s known x ≡ of_form x.form
  unfolding of_form
  by_form x = fold_out-Expression (List Fault) (List Fault) (List Fault) (in_form s known) (λ e. e.form) (λ u. u.operand) x ∙ ap (λ o. of_form o.form) (outs-Expression' x)

  by_operand : (u : Operand) → of_operand u ≡ in_expression s known u.operand
  by_operand u = fold_out-Operand (List Fault) (List Fault) (List Fault) (in_form s known) (λ e. e.form) (λ u. u.operand) u ∙ ap (λ o. in_expression s known o.operand) (outs-Operand' u)

  operands : (us : List Operand) → flat_map (λ u. u) (map of_operand us) ≡ flat_map (λ u. in_expression s known u.operand) us
  operands [] = refl
  operands (u ∷ us) = ap (λ l. l ++ flat_map (λ u. u) (map of_operand us)) (by_operand u) ∙ ap (λ l. in_expression s known u.operand ++ l) (operands us)

  module _ (x : Expression) (first front result : Option Fault) where
    pub chain : (e got : Expression) (us items : List Operand) → x.form ≡ forms.Chain e us → got ≡ e → items ≡ us → front ≡ first_from first (in_expression s known got) → result ≡ first_from front (flat_map (λ u. in_expression s known u.operand) items) → result ≡ first_from first (in_expression s known x)
    unfolding of_form
    chain e got us items is g i a b =
        let whole = by_form x ∙ ap of_form is ∙ ap of_form (sym (forms.rolls-Chain e us)) ∙ fold-roll-Form (List Fault) (List Fault) (List Fault) (in_form s known) (λ e. e.form) (λ u. u.operand) (f.Chain e us) ∙ ap (λ l. in_expression s known e ++ l) (operands us) in
        b ∙ ap (λ o. first_from o (flat_map (λ u. in_expression s known u.operand) items)) (a ∙ ap (λ y. first_from first (in_expression s known y)) g)
        ∙ ap (λ l. first_from (first_from first (in_expression s known e)) (flat_map (λ u. in_expression s known u.operand) l)) i
        ∙ sym (in_parts first (in_expression s known e) (flat_map (λ u. in_expression s known u.operand) us)) ∙ ap (first_from first) (sym whole)

    pub compared : (e g : Expression) (c : Comparison) (left right : Expression) → x.form ≡ forms.Compared e c g → left ≡ e → right ≡ g → front ≡ first_from first (in_expression s known left) → result ≡ first_from front (in_expression s known right) → result ≡ first_from first (in_expression s known x)
    unfolding of_form
    compared e g c left right is l r a b =
        let whole = by_form x ∙ ap of_form is ∙ ap of_form (sym (forms.rolls-Compared e c g)) ∙ fold-roll-Form (List Fault) (List Fault) (List Fault) (in_form s known) (λ e. e.form) (λ u. u.operand) (f.Compared e c g) in
        b ∙ ap (λ o. first_from o (in_expression s known right)) (a ∙ ap (λ y. first_from first (in_expression s known y)) l)
        ∙ ap (λ y. first_from (first_from first (in_expression s known e)) (in_expression s known y)) r
        ∙ sym (in_parts first (in_expression s known e) (in_expression s known g)) ∙ ap (first_from first) (sym whole)
