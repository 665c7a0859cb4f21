use Rattle.fab_settings.specs.Numbers.{in_expression, in_statement}
use Rattle.fab_fitting.proofs.Forms.{atomic_fits, call_fits, if_fits, while_fits}
use Rattle.fab_fitting.proofs.Lists.{of_lists}
use Rattle.fab_fitting.proofs.bodies.+block.Goals as goal

pub read_statement-returns-in-Call : goal.read_statement-returns-in-Call
read_statement-returns-in-Call t c =
    let x = c.in-Call in
    call_fits c.args.statement.now x.method x.arguments x.is (of_lists in_expression x.arguments _ c.as_slice.ensures c.read_arguments.ensures)

pub read_statement-returns-in-If : goal.read_statement-returns-in-If
read_statement-returns-in-If t c =
    let x = c.in-If in
    if_fits c.args.statement.now x.condition x.block x.otherwise x.is c.read_expression-in-If.ensures
    (of_lists in_statement x.block _ c.as_slice-in-If.ensures c.read_block.ensures)
    (of_lists in_statement x.otherwise _ c.as_slice-in-If-2.ensures c.read_block-in-If.ensures)

pub read_statement-returns-in-While : goal.read_statement-returns-in-While
read_statement-returns-in-While t c =
    let x = c.in-While in
    while_fits c.args.statement.now x.condition x.block x.is c.read_expression-in-While.ensures
    (of_lists in_statement x.block _ c.as_slice-in-While.ensures c.read_block-in-While.ensures)

pub read_statement-returns-in-Atomic : goal.read_statement-returns-in-Atomic
read_statement-returns-in-Atomic t c =
    let x = c.in-Atomic in
    atomic_fits c.args.statement.now x.label x.block x.otherwise x.at x.is
    (of_lists in_statement x.block _ c.as_slice-in-Atomic.ensures c.read_block-in-Atomic.ensures)
    (of_lists in_statement x.otherwise _ c.as_slice-in-Atomic-2.ensures c.read_block-in-Atomic-2.ensures)
