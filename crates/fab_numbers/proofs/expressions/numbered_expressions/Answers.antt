use Rattle.std.proofs.Common.{length}
use Rattle.fab_tree.specs.Sites.{in_expressions}
use Rattle.fab_language.specs.MethodNumbers.{expression_of, expressions_of}
use Rattle.fab_numbers.proofs.InTurn.{refused, grows, ends_within, goes_on}
use Rattle.fab_numbers.proofs.SitesTaken.{expressions_take}
use Rattle.fab_numbers.proofs.expressions.numbered_expressions.Goals as goal

pub returns-in_err-one : goal.returns-in_err-one
returns-in_err-one c =
    refused c.from_residual-in_err-one.result c.in_err-one.field-0.0 c.numbered_expression.new.sites c.numbered_expression.new.sites
    (expression_of c.args.scope.now.tables.now c.args.scope.now.locals c.expression-item.result c.loop-expression.sites)
    (expressions_of c.args.scope.now.tables.now c.args.scope.now.locals c.args.expressions.now c.args.sites.now)
    c.from_residual-in_err-one.ensures.1
    (ends_within (expression_of c.args.scope.now.tables.now c.args.scope.now.locals) c.args.expressions.now c.loop-expression.expression-index c.expression-item.result c.loop-expression-test.true c.expression-item.is c.loop-expression.sites (expressions_of c.args.scope.now.tables.now c.args.scope.now.locals c.args.expressions.now c.args.sites.now).1
    (λ ys m. grows (expressions_of c.args.scope.now.tables.now c.args.scope.now.locals ys) (length (in_expressions ys)) (expressions_take c.args.scope.now.tables.now c.args.scope.now.locals ys) m) c.loop-expression.invariant.next)
    c.in_err-one.ensures

pub loop-expression-preserved : goal.loop-expression-preserved
loop-expression-preserved c =
    let k = goes_on (expression_of c.args.scope.now.tables.now c.args.scope.now.locals) c.args.expressions.now c.loop-expression.expression-index c.expression-item.result c.loop-expression-test.true c.expression-item.is c.loop-expression.made c.push.new.self
    c.in_ok-one.one c.loop-expression.sites c.numbered_expression.new.sites
    (expressions_of c.args.scope.now.tables.now c.args.scope.now.locals c.args.expressions.now c.args.sites.now)
    c.in_ok-one.ensures c.in_ok-push.ensures.ok c.loop-expression.invariant.made c.loop-expression.invariant.next in
    record { made = k.0; next = k.1 }
