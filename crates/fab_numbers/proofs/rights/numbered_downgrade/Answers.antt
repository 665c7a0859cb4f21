use Rattle.std.proofs.Common.{suc, length}
use Rattle.fab_tree.specs.Sites.{in_expression}
use Rattle.fab_tree.specs.declared.resolved.Right.TheVariants.{Downgrade}
use Rattle.fab_language.specs.Uses.{label_use}
use Rattle.fab_language.specs.MethodNumbers.{at_site, expression_of}
use Rattle.fab_numbers.proofs.InTurn.{refused}
use Rattle.fab_numbers.proofs.SitesTaken.{expression_takes}
use Rattle.fab_numbers.proofs.Within.{site_within}
use Rattle.fab_numbers.proofs.rights.numbered_downgrade.Goals as goal

pub returns-in_err-site : goal.returns-in_err-site
returns-in_err-site c =
    refused c.from_residual.result c.in_err-site.field-0.0 c.next_site.new.sites c.next_site.new.sites
    (c.args.sites.now, suc c.args.sites.now)
    (at_site (λ n v. Downgrade c.args.downgrade v (label_use c.args.scope.now.tables.now c.args.from.now) (label_use c.args.scope.now.tables.now c.args.to.now) n c.args.at) (expression_of c.args.scope.now.tables.now c.args.scope.now.locals c.args.value.now) c.args.sites.now)
    c.from_residual.ensures.1
    (site_within (λ n v. Downgrade c.args.downgrade v (label_use c.args.scope.now.tables.now c.args.from.now) (label_use c.args.scope.now.tables.now c.args.to.now) n c.args.at) (expression_of c.args.scope.now.tables.now c.args.scope.now.locals c.args.value.now) (length (in_expression c.args.value.now)) c.args.sites.now
    (expression_takes c.args.scope.now.tables.now c.args.scope.now.locals c.args.value.now))
    c.in_err-site.ensures
