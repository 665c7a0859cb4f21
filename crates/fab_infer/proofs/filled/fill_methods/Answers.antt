use Rattle.fab_holes.specs.Holes.{filled_method}
use Rattle.fab_infer.specs.Fill.{of_labels}
use Rattle.fab_infer.proofs.Fills.{of_more}
use Rattle.fab_infer.proofs.filled.fill_methods.Goals as goal

pub methods-preserved : goal.methods-preserved
methods-preserved c =
    of_more (filled_method (of_labels c.args.declared.now.labels.now)) c.methods.yielded c.in-Some.method c.args.choice.now c.methods.left.now c.in_ok-method.after.now c.methods.out c.push.new.self c.in_ok-method.method
    c.methods.invariant c.in_ok-method.ensures c.in_ok-push.ensures.ok
