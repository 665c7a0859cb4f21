use Rattle.fab_settings.specs.Numbers.{in_statement}
use Rattle.fab_fitting.proofs.Lists.{joined, of_lists}
use Rattle.fab_fitting.proofs.bodies.read_method.Goals as goal

pub returns : goal.returns
returns c = joined _ _ (of_lists in_statement c.args.method.now.body _ c.as_slice.ensures c.read_block.ensures) c.read_returned.ensures
