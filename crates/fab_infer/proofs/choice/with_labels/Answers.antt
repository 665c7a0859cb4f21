use Rattle.fab_holes.proofs.Puts.{next_local}
use Rattle.fab_infer.proofs.choice.with_labels.Goals as goal

pub locals-preserved : goal.locals-preserved
locals-preserved c =
    next_local c.args.count c.locals.yielded c.in-Some.local c.with_first-local.result.0 c.args.labels.now c.locals.rest.now c.with_first-local.result.1.now c.locals.out c.push.new.self
    c.locals.invariant c.with_first-local.ensures c.in_ok-push.ensures.ok
