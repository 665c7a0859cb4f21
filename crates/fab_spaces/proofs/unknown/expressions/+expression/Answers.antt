use Rattle.fab_language.specs.Unknown.{in_expression}
use Rattle.fab_spaces.proofs.Chains.{chain, compared}
use Rattle.fab_spaces.proofs.Parts.{one_more}
use Rattle.fab_spaces.proofs.unknown.expressions.+expression.Goals as goal

pub in_expression-returns-in-Chain : goal.in_expression-returns-in-Chain
in_expression-returns-in-Chain t c =
    chain c.args.tables.now c.args.known.now c.args.expression.now c.args.first c.in_expression-first.result c.in_operands.result
    c.in-Chain.head c.get-in-Chain.result.now c.in-Chain.others c.as_slice.result.now c.in-Chain.is c.get-in-Chain.ensures c.as_slice.ensures c.in_expression-first.ensures c.in_operands.ensures

pub in_expression-returns-in-Compared : goal.in_expression-returns-in-Compared
in_expression-returns-in-Compared t c =
    compared c.args.tables.now c.args.known.now c.args.expression.now c.args.first c.in_expression-first-in-Compared.result c.in_expression-in-Compared.result
    c.in-Compared.left c.in-Compared.right c.in-Compared.comparison c.get-in-Compared.result.now c.get-in-Compared-2.result.now c.in-Compared.is c.get-in-Compared.ensures c.get-in-Compared-2.ensures c.in_expression-first-in-Compared.ensures c.in_expression-in-Compared.ensures

pub in_operands-loop-operand-preserved : goal.in_operands-loop-operand-preserved
in_operands-loop-operand-preserved t c =
    one_more (λ o. in_expression c.args.tables.now c.args.known.now o.operand) c.args.operands.now c.loop-operand.operand-index c.operand-item.result
    c.loop-operand-test.true c.operand-item.is c.loop-operand.first c.in_expression-first.result _ c.in_expression-first.ensures c.loop-operand.invariant
