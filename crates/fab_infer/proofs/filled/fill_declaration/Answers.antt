use Rattle.std.proofs.Common.{refl}
use Rattle.fab_tree.specs.declared.statement.Statement.TheVariants.{Declare}
use Rattle.fab_infer.specs.Fill.{of_labels}
use Rattle.fab_infer.proofs.Fills.{of_declare}
use Rattle.fab_infer.proofs.filled.fill_declaration.Goals as goal

pub returns : goal.returns
returns c =
    let l = c.args.local in
    let h = c.in_ok-label in
    of_declare (of_labels c.args.declared.now.labels.now) (Declare l.sort l.name l.label c.args.value c.args.at) l.sort l.name l.label h.label c.args.value c.args.at c.args.choice.now h.left.now refl h.ensures
