use Rattle.fab_holes.specs.Holes.{filled_parameter}
use Rattle.fab_infer.specs.Fill.{of_labels}
use Rattle.fab_infer.proofs.Fills.{of_more}
use Rattle.fab_infer.proofs.filled.fill_parameters.Goals as goal

pub parameters-preserved : goal.parameters-preserved
parameters-preserved c =
    of_more (filled_parameter (of_labels c.args.declared.now.labels.now)) c.parameters.yielded c.in-Some.parameter c.args.choice.now c.parameters.left.now c.in_ok-parameter.after.now c.parameters.out c.push.new.self c.in_ok-parameter.parameter
    c.parameters.invariant c.in_ok-parameter.ensures c.in_ok-push.ensures.ok
