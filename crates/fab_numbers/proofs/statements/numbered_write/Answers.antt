use Rattle.std.proofs.Common.{suc}
use Rattle.fab_tree.specs.declared.statement.Statement.TheVariants as statements
use Rattle.fab_language.specs.MethodNumbers.{expression_of, statement_of}
use Rattle.fab_numbers.proofs.InTurn.{refused}
use Rattle.fab_numbers.proofs.Within.{write_first, write_second, write_made}
use Rattle.fab_numbers.proofs.statements.numbered_write.Goals as goal

pub returns-in_err-site : goal.returns-in_err-site
returns-in_err-site c =
    refused c.from_residual.result c.in_err-site.field-0.0 c.next_site.new.sites c.next_site.new.sites
    (c.args.sites.now, suc c.args.sites.now)
    (statement_of c.args.scope.now.tables.now c.args.scope.now.locals (statements.Write c.args.object.now c.args.field.now c.args.value.now) c.args.sites.now)
    c.from_residual.ensures.1
    (write_first c.args.scope.now.tables.now c.args.scope.now.locals c.args.object.now c.args.field.now c.args.value.now c.args.sites.now)
    c.in_err-site.ensures

pub returns-in_err-written : goal.returns-in_err-written
returns-in_err-written c =
    refused c.from_residual-in_err-written.result c.in_err-written.field-0.0 c.numbered_expression.new.sites c.numbered_expression.new.sites
    (expression_of c.args.scope.now.tables.now c.args.scope.now.locals c.args.value.now c.next_site.new.sites)
    (statement_of c.args.scope.now.tables.now c.args.scope.now.locals (statements.Write c.args.object.now c.args.field.now c.args.value.now) c.args.sites.now)
    c.from_residual-in_err-written.ensures.1
    (write_second c.args.scope.now.tables.now c.args.scope.now.locals c.args.object.now c.args.field.now c.args.value.now c.args.sites.now c.in_ok-site.site c.next_site.new.sites c.in_ok-site.ensures)
    c.in_err-written.ensures

pub returns : goal.returns
returns c =
    write_made c.args.scope.now.tables.now c.args.scope.now.locals c.args.object.now c.args.field.now c.args.value.now c.args.sites.now c.in_ok-site.site c.next_site.new.sites c.in_ok-site.ensures
    c.in_ok-written.written c.numbered_expression.new.sites c.local_use.result c.field_number.result c.in_ok-written.ensures c.local_use.ensures c.field_number.ensures
