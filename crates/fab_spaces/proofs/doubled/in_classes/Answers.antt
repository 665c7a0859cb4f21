use Rattle.fab_language.specs.Doubled.{in_class}
use Rattle.fab_spaces.proofs.Parts.{one_more}
use Rattle.fab_spaces.proofs.doubled.in_classes.Goals as goal

pub loop-class-preserved : goal.loop-class-preserved
loop-class-preserved c =
    one_more in_class c.args.classes.now c.loop-class.class-index c.class-item.result c.loop-class-test.true c.class-item.is c.loop-class.first c.in_ok-first.first _ c.in_ok-first.ensures c.loop-class.invariant
