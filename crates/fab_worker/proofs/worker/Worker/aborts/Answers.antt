use Rattle.fab_worker.proofs.Planning.{aborts_sent}
use Rattle.fab_worker.proofs.worker.Worker.aborts.Goals as goal

pub returns-in-Some : goal.returns-in-Some
returns-in-Some c =
    aborts_sent c.args.self.now c.in-Some.coordinator.now _ c.in-Some.ensures c.to_each.result c.stores.result.now c.tid.result c.stores.ensures.stores c.tid.ensures.tid
    c.to_each.ensures.sends
