use Rattle.std.proofs.Common.{ℕ, map, ◌∙◌, ap, length}
use Rattle.std.specs.List.{flat_map}
use Rattle.fab_tree.specs.declared.resolved.Expression.{Expression as NumberedExpression}
use Rattle.fab_language.specs.MethodNumbers.{in_turn, operand_at, form_of, expression_of, operand_of}
use Rattle.fab_numbers.proofs.InTurn.{refused, grows, ends_within, goes_on}
use Rattle.fab_numbers.proofs.SitesTaken.{in_operand, operands_take_all}
use Rattle.fab_numbers.proofs.Within.{chain_first, compared_first, operand_is, operand_within}
use Rattle.fab_numbers.proofs.expressions.+expression.Goals as goal

pub numbered_form-returns-in_err-numbered_boxed-in-Chain :
    goal.numbered_form-returns-in_err-numbered_boxed-in-Chain
numbered_form-returns-in_err-numbered_boxed-in-Chain t c =
    refused c.from_residual-in_err-numbered_boxed-in-Chain.result c.in_err-numbered_boxed-in-Chain.field-0.0 c.numbered_boxed-in-Chain.new.sites c.numbered_boxed-in-Chain.new.sites
    (expression_of c.args.scope.now.tables.now c.args.scope.now.locals c.in-Chain.first c.args.sites.now)
    (form_of c.args.scope.now.tables.now c.args.scope.now.locals c.args.form.now c.args.sites.now)
    c.from_residual-in_err-numbered_boxed-in-Chain.ensures.1
    (chain_first c.args.scope.now.tables.now c.args.scope.now.locals c.args.form.now c.in-Chain.first c.in-Chain.others c.args.sites.now c.in-Chain.is)
    c.in_err-numbered_boxed-in-Chain.ensures

pub numbered_form-returns-in_err-numbered_boxed-in-Compared :
    goal.numbered_form-returns-in_err-numbered_boxed-in-Compared
numbered_form-returns-in_err-numbered_boxed-in-Compared t c =
    refused c.from_residual-in_err-numbered_boxed-in-Compared.result c.in_err-numbered_boxed-in-Compared.field-0.0 c.numbered_boxed-in-Compared.new.sites c.numbered_boxed-in-Compared.new.sites
    (expression_of c.args.scope.now.tables.now c.args.scope.now.locals c.in-Compared.left c.args.sites.now)
    (form_of c.args.scope.now.tables.now c.args.scope.now.locals c.args.form.now c.args.sites.now)
    c.from_residual-in_err-numbered_boxed-in-Compared.ensures.1
    (compared_first c.args.scope.now.tables.now c.args.scope.now.locals c.args.form.now c.in-Compared.left c.in-Compared.right c.in-Compared.comparison c.args.sites.now c.in-Compared.is)
    c.in_err-numbered_boxed-in-Compared.ensures

pub numbered_operands-returns-in_err-operand : goal.numbered_operands-returns-in_err-operand
numbered_operands-returns-in_err-operand t c =
    refused c.from_residual-in_err-operand.result c.in_err-operand.field-0.0 c.numbered_expression.new.sites c.numbered_expression.new.sites
    (expression_of c.args.scope.now.tables.now c.args.scope.now.locals c.other-item.result.operand c.loop-other.sites)
    (in_turn (map (operand_of c.args.scope.now.tables.now c.args.scope.now.locals) c.args.others.now) c.args.sites.now)
    c.from_residual-in_err-operand.ensures.1
    (operand_within c.args.scope.now.tables.now c.args.scope.now.locals c.other-item.result c.loop-other.sites (in_turn (map (operand_of c.args.scope.now.tables.now c.args.scope.now.locals) c.args.others.now) c.args.sites.now).1
    (ends_within (operand_of c.args.scope.now.tables.now c.args.scope.now.locals) c.args.others.now c.loop-other.other-index c.other-item.result c.loop-other-test.true c.other-item.is c.loop-other.sites (in_turn (map (operand_of c.args.scope.now.tables.now c.args.scope.now.locals) c.args.others.now) c.args.sites.now).1
    (λ ys m. grows (in_turn (map (operand_of c.args.scope.now.tables.now c.args.scope.now.locals) ys)) (length (flat_map in_operand ys)) (operands_take_all c.args.scope.now.tables.now c.args.scope.now.locals ys) m) c.loop-other.invariant.next))
    c.in_err-operand.ensures

pub numbered_operands-loop-other-preserved : goal.numbered_operands-loop-other-preserved
numbered_operands-loop-other-preserved t c =
    let k = goes_on (operand_of c.args.scope.now.tables.now c.args.scope.now.locals) c.args.others.now c.loop-other.other-index c.other-item.result c.loop-other-test.true c.other-item.is c.loop-other.made c.push.new.self
    (operand_at c.other-item.result.at c.other-item.result.operator c.in_ok-operand.operand) c.loop-other.sites c.numbered_expression.new.sites
    (in_turn (map (operand_of c.args.scope.now.tables.now c.args.scope.now.locals) c.args.others.now) c.args.sites.now)
    (operand_is c.args.scope.now.tables.now c.args.scope.now.locals c.other-item.result c.loop-other.sites ∙ ap (λ (w : NumberedExpression × ℕ). (operand_at c.other-item.result.at c.other-item.result.operator w.0, w.1)) c.in_ok-operand.ensures)
    c.in_ok-push.ensures.ok c.loop-other.invariant.made c.loop-other.invariant.next in
    record { made = k.0; next = k.1 }
