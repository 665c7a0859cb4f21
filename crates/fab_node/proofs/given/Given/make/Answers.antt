use Rattle.std.proofs.Common.{sym}
use Rattle.fab_evaluation.proofs.RootObjects.{are_numbered}
use Rattle.fab_node.proofs.given.Given.make.Goals as goal

pub at_start-requires : goal.at_start-requires
at_start-requires c =
    are_numbered c.deref.result.now c.args.program.value c.deref.ensures
    (record { start = c.requires.0; within = c.requires.2.within; right = c.requires.2.named; is = sym c.requires.1 })
