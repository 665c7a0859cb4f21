use Rattle.std.proofs.Common.{◌∙◌}
use Rattle.fab_evaluation.proofs.RootObjects.{are_numbered}
use Rattle.fab_evaluation.proofs.text.evaluation.Goals as goal

pub at_start-requires : goal.at_start-requires
at_start-requires c = are_numbered c.deref-2.result.now c.args.start (c.deref-2.ensures ∙ c.in_ok-start.ensures.ok) c.requires

pub put_outcomes-requires : goal.put_outcomes-requires
put_outcomes-requires c = are_numbered c.deref-3.result.now c.args.start (c.deref-3.ensures ∙ c.in_ok-start.ensures.ok) c.requires

pub put_objects-requires : goal.put_objects-requires
put_objects-requires c = are_numbered c.deref-4.result.now c.args.start (c.deref-4.ensures ∙ c.in_ok-start.ensures.ok) c.requires
