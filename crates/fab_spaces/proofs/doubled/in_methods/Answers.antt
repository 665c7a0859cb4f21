use Rattle.fab_language.specs.Doubled.{in_method}
use Rattle.fab_spaces.proofs.Parts.{one_more}
use Rattle.fab_spaces.proofs.doubled.in_methods.Goals as goal

pub loop-method-preserved : goal.loop-method-preserved
loop-method-preserved c =
    one_more in_method c.args.methods.now c.loop-method.method-index c.method-item.result c.loop-method-test.true c.method-item.is c.loop-method.first c.in_ok-first.first _ c.in_ok-first.ensures c.loop-method.invariant
