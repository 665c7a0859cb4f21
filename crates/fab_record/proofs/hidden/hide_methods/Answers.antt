use Rattle.fab_rights.specs.Computed.{has_bit}
use Rattle.fab_record.specs.Hidden.{hidden_method}
use Rattle.fab_record.proofs.Gathering.{step}
use Rattle.fab_record.proofs.hidden.hide_methods.Goals as goal

pub loop-method-preserved : goal.loop-method-preserved
loop-method-preserved c =
    step (hidden_method (has_bit c.args.labels) c.args.start.now.classes) c.loop-method.out c.hide_method.new.out _ c.as_slice-method-items.result.now c.loop-method.method-index c.method-item.result
    c.loop-method-test.true c.method-item.is c.in_ok-hide_method.ensures c.loop-method.invariant
