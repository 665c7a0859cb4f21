use Rattle.std.proofs.Common.{sym, ap, ◌∙◌}
use Rattle.fab_language.specs.Numbers.{value_of}
use Rattle.fab_numbers.proofs.RootsByNumber.{refers, refers_to_none}
use Rattle.fab_numbers.proofs.objects.argument.Goals as goal

pub returns-in-Some : goal.returns-in-Some
returns-in-Some c =
    let l = c.in-Some.ensures.lookup in
    refers c.args.tables.now c.in-Root.name c.args.roots.now c.requires c.root_number.result c.root_number.ensures c.in-Some.root.now l.3.0 l.1
    ∙ ap (value_of c.args.tables.now) (sym c.in-Root.is)

pub returns-in-None : goal.returns-in-None
returns-in-None c =
    let l = c.in-None.ensures.lookup in
    refers_to_none c.args.tables.now c.in-Root.name c.args.roots.now c.requires c.root_number.result c.root_number.ensures l.3
    ∙ ap (value_of c.args.tables.now) (sym c.in-Root.is)
