use Rattle.std.specs.List.{flat_map}
use Rattle.fab_settings.specs.Numbers.{in_expression}
use Rattle.fab_fitting.proofs.Forms.{chain_fits, compared_fits, in_operand}
use Rattle.fab_fitting.proofs.Lists.{same}
use Rattle.fab_fitting.proofs.expressions.+expression.Goals as goal

pub read_expression-returns-in-Chain : goal.read_expression-returns-in-Chain
read_expression-returns-in-Chain t c =
    chain_fits c.args.expression.now c.in-Chain.first c.in-Chain.others c.in-Chain.is
    (same in_expression _ _ c.get-in-Chain.ensures c.read_expression-in-Chain.ensures)
    (same (flat_map in_operand) _ _ c.as_slice.ensures c.read_operands.ensures)

pub read_expression-returns-in-Compared : goal.read_expression-returns-in-Compared
read_expression-returns-in-Compared t c =
    compared_fits c.args.expression.now c.in-Compared.left c.in-Compared.right c.in-Compared.comparison c.in-Compared.is
    (same in_expression _ _ c.get-in-Compared.ensures c.read_expression-in-Compared.ensures)
    (same in_expression _ _ c.get-in-Compared-2.ensures c.read_expression-in-Compared-2.ensures)
