use Rattle.std.proofs.Common.{◌∙◌}
use Rattle.fab_nested.proofs.Naming.{among_by}
use Rattle.fab_nested.proofs.objects.is_in.Goals as goal

pub returns : goal.returns
returns c = c.contains.ensures ∙ among_by c.args.oid c.args.names.now
