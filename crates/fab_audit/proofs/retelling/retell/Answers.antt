use Rattle.fab_audit.proofs.Retold.{few_so_far}
use Rattle.fab_audit.proofs.retelling.retell.Goals as goal

pub comes-requires-clause-few : goal.comes-requires-clause-few
comes-requires-clause-few c = few_so_far c.args.core.now c.events.core c.args.told.now c.events.rest.now c.events.invariant.0
