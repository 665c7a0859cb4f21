use Rattle.fab_world.specs.Workers.{kept_of}
use Rattle.fab_worker.proofs.worker.Worker.make.Goals as goal

pub returns-clause-kept : goal.returns-clause-kept
unfolding kept_of
returns-clause-kept c = c.behind.ensures.kept
