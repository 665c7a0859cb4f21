use Rattle.std.proofs.Common.{◌*◌, ◌<◌, length, arith}
use Rattle.std.specs.List.{flat_map}
use Rattle.fab_tree.specs.Sites.{in_statement}
use Rattle.fab_tree.specs.declared.statement.Statement.TheVariants.{If, While, Atomic}
use Rattle.fab_language.specs.MethodNumbers.{expression_of, statement_of, block_of}
use Rattle.fab_numbers.proofs.InTurn.{refused, grows, ends_within, goes_on}
use Rattle.fab_numbers.proofs.SitesTaken.{block_takes}
use Rattle.fab_language.proofs.Weights.{weight, weight_within}
use Rattle.fab_numbers.proofs.Within.{if_first, if_second, while_first, atomic_first}
use Rattle.fab_numbers.proofs.statements.+block.Goals as goal

pub numbered_block-numbered_statement-requires : goal.numbered_block-numbered_statement-requires
numbered_block-numbered_statement-requires t c =
    let w = weight_within c.args.block.now c.loop-statement.statement-index c.statement-item.result c.loop-statement-test.true c.statement-item.is in
    let h : 3 * weight c.statement-item.result < t = omega (arith, w, c.decreases) in
    (h, tt)

pub numbered_block-returns-in_err-one : goal.numbered_block-returns-in_err-one
numbered_block-returns-in_err-one t c =
    refused c.from_residual-in_err-one.result c.in_err-one.field-0.0 c.numbered_statement.new.sites c.numbered_statement.new.sites
    (statement_of c.args.scope.now.tables.now c.args.scope.now.locals c.statement-item.result c.loop-statement.sites)
    (block_of c.args.scope.now.tables.now c.args.scope.now.locals c.args.block.now c.args.sites.now)
    c.from_residual-in_err-one.ensures.1
    (ends_within (statement_of c.args.scope.now.tables.now c.args.scope.now.locals) c.args.block.now c.loop-statement.statement-index c.statement-item.result c.loop-statement-test.true c.statement-item.is c.loop-statement.sites (block_of c.args.scope.now.tables.now c.args.scope.now.locals c.args.block.now c.args.sites.now).1
    (λ ys m. grows (block_of c.args.scope.now.tables.now c.args.scope.now.locals ys) (length (flat_map in_statement ys)) (block_takes c.args.scope.now.tables.now c.args.scope.now.locals ys) m) c.loop-statement.invariant.next)
    c.in_err-one.ensures

pub numbered_block-loop-statement-preserved : goal.numbered_block-loop-statement-preserved
numbered_block-loop-statement-preserved t c =
    let k = goes_on (statement_of c.args.scope.now.tables.now c.args.scope.now.locals) c.args.block.now c.loop-statement.statement-index c.statement-item.result c.loop-statement-test.true c.statement-item.is c.loop-statement.made c.push.new.self
    c.in_ok-one.one c.loop-statement.sites c.numbered_statement.new.sites
    (block_of c.args.scope.now.tables.now c.args.scope.now.locals c.args.block.now c.args.sites.now)
    c.in_ok-one.ensures c.in_ok-push.ensures.ok c.loop-statement.invariant.made c.loop-statement.invariant.next in
    record { made = k.0; next = k.1 }

pub numbered_choice-returns-in_err-numbered_expression : goal.numbered_choice-returns-in_err-numbered_expression
numbered_choice-returns-in_err-numbered_expression t c =
    refused c.from_residual.result c.in_err-numbered_expression.field-0.0 c.numbered_expression.new.sites c.numbered_expression.new.sites
    (expression_of c.args.scope.now.tables.now c.args.scope.now.locals c.args.condition.now c.args.sites.now)
    (statement_of c.args.scope.now.tables.now c.args.scope.now.locals (If c.args.condition.now c.args.block.now c.args.otherwise.now) c.args.sites.now)
    c.from_residual.ensures.1
    (if_first c.args.scope.now.tables.now c.args.scope.now.locals c.args.condition.now c.args.block.now c.args.otherwise.now c.args.sites.now)
    c.in_err-numbered_expression.ensures

pub numbered_choice-returns-in_err-numbered_block : goal.numbered_choice-returns-in_err-numbered_block
numbered_choice-returns-in_err-numbered_block t c =
    refused c.from_residual-in_err-numbered_block.result c.in_err-numbered_block.field-0.0 c.numbered_block.new.sites c.numbered_block.new.sites
    (block_of c.args.scope.now.tables.now c.args.scope.now.locals c.as_slice.result.now c.numbered_expression.new.sites)
    (statement_of c.args.scope.now.tables.now c.args.scope.now.locals (If c.args.condition.now c.args.block.now c.args.otherwise.now) c.args.sites.now)
    c.from_residual-in_err-numbered_block.ensures.1
    (if_second c.args.scope.now.tables.now c.args.scope.now.locals c.args.condition.now c.args.block.now c.args.otherwise.now c.args.sites.now c.as_slice.result.now c.numbered_expression.new.sites c.in_ok-numbered_expression.field-0 c.as_slice.ensures c.in_ok-numbered_expression.ensures)
    c.in_err-numbered_block.ensures

pub numbered_loop-returns-in_err-numbered_expression : goal.numbered_loop-returns-in_err-numbered_expression
numbered_loop-returns-in_err-numbered_expression t c =
    refused c.from_residual.result c.in_err-numbered_expression.field-0.0 c.numbered_expression.new.sites c.numbered_expression.new.sites
    (expression_of c.args.scope.now.tables.now c.args.scope.now.locals c.args.condition.now c.args.sites.now)
    (statement_of c.args.scope.now.tables.now c.args.scope.now.locals (While c.args.condition.now c.args.block.now) c.args.sites.now)
    c.from_residual.ensures.1
    (while_first c.args.scope.now.tables.now c.args.scope.now.locals c.args.condition.now c.args.block.now c.args.sites.now)
    c.in_err-numbered_expression.ensures

pub numbered_atomic-returns-in_err-numbered_block : goal.numbered_atomic-returns-in_err-numbered_block
numbered_atomic-returns-in_err-numbered_block t c =
    refused c.from_residual.result c.in_err-numbered_block.field-0.0 c.numbered_block.new.sites c.numbered_block.new.sites
    (block_of c.args.scope.now.tables.now c.args.scope.now.locals c.as_slice.result.now c.args.sites.now)
    (statement_of c.args.scope.now.tables.now c.args.scope.now.locals (Atomic c.args.label.now c.args.block.now c.args.otherwise.now c.args.at) c.args.sites.now)
    c.from_residual.ensures.1
    (atomic_first c.args.scope.now.tables.now c.args.scope.now.locals c.args.label.now c.args.block.now c.as_slice.result.now c.args.otherwise.now c.args.at c.args.sites.now c.as_slice.ensures)
    c.in_err-numbered_block.ensures
