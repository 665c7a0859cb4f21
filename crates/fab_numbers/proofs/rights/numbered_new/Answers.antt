use Rattle.std.proofs.Common.{suc, length}
use Rattle.fab_tree.specs.Sites.{in_expressions}
use Rattle.fab_tree.specs.declared.resolved.Right.TheVariants.{New}
use Rattle.fab_language.specs.Uses.{class_use, node_use}
use Rattle.fab_language.specs.MethodNumbers.{at_site, expressions_of}
use Rattle.fab_numbers.proofs.InTurn.{refused}
use Rattle.fab_numbers.proofs.SitesTaken.{expressions_take}
use Rattle.fab_numbers.proofs.Within.{site_within}
use Rattle.fab_numbers.proofs.rights.numbered_new.Goals as goal

pub returns-in_err-site : goal.returns-in_err-site
returns-in_err-site c =
    refused c.from_residual.result c.in_err-site.field-0.0 c.next_site.new.sites c.next_site.new.sites
    (c.args.sites.now, suc c.args.sites.now)
    (at_site (λ n vs. New (class_use c.args.scope.now.tables.now c.args.class.now) (node_use c.args.scope.now.tables.now c.args.store.now) vs n c.args.at) (expressions_of c.args.scope.now.tables.now c.args.scope.now.locals c.args.arguments.now) c.args.sites.now)
    c.from_residual.ensures.1
    (site_within (λ n vs. New (class_use c.args.scope.now.tables.now c.args.class.now) (node_use c.args.scope.now.tables.now c.args.store.now) vs n c.args.at) (expressions_of c.args.scope.now.tables.now c.args.scope.now.locals c.args.arguments.now) (length (in_expressions c.args.arguments.now)) c.args.sites.now
    (expressions_take c.args.scope.now.tables.now c.args.scope.now.locals c.args.arguments.now))
    c.in_err-site.ensures
