use Rattle.std.proofs.Common.{sym, ◌∙◌}
use Rattle.fab_lines.proofs.Roots.{none_found, one_found, other_found}
use Rattle.fab_lines.proofs.names.root_of.Goals as goal

pub returns-in-None : goal.returns-in-None
returns-in-None c = none_found c.args.oid c.args.roots.now c.requires c.in-None.ensures

pub returns-then-is_one_name : goal.returns-then-is_one_name
returns-then-is_one_name c = one_found c.args.oid c.args.roots.now c.in-Some.root.now c.requires c.in-Some.ensures (sym c.is_one_name.ensures ∙ c.if-is_one_name.true)

pub returns-else-is_one_name : goal.returns-else-is_one_name
returns-else-is_one_name c = other_found c.args.oid c.args.roots.now c.in-Some.root.now c.requires c.in-Some.ensures (sym c.is_one_name.ensures ∙ c.if-is_one_name.false)
