use Rattle.fab_locks.proofs.Putting.{take_one}
use Rattle.fab_locks.proofs.names.take_name.Goals as goal

pub returns : goal.returns
returns c = take_one c.args.oid c.args.number c.args.names.now c.remove.new.self c.remove.ensures.updates.0
