use Rattle.std.proofs.Common.{◌∙◌}
use Rattle.fab_infer.proofs.Targets.{list_none, list_some}
use Rattle.fab_infer.proofs.closing.targets_at.Goals as goal

pub returns-in-Some : goal.returns-in-Some
returns-in-Some c = c.as_slice.ensures ∙ list_some c.args.targets.now c.args.hole c.in-Some.list.now c.in-Some.ensures.lookup.0 c.in-Some.ensures.lookup.1

pub returns-in-None : goal.returns-in-None
returns-in-None c = list_none c.args.targets.now c.args.hole c.in-None.ensures.lookup.0
