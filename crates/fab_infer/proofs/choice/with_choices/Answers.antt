use Rattle.fab_holes.proofs.Puts.{next_method}
use Rattle.fab_infer.proofs.choice.with_choices.Goals as goal

pub methods-preserved : goal.methods-preserved
methods-preserved c =
    next_method c.args.count c.methods.yielded c.in-Some.method c.in_ok-method.method c.args.labels.now c.methods.rest.now c.in_ok-method.after.now c.methods.out c.push.new.self
    c.methods.invariant c.in_ok-method.ensures c.in_ok-push.ensures.ok
