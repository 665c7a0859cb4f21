use denote.Param.Send.{sendable}
use Rattle.std.proofs.Crossing.{crosses}
use Rattle.fab_pool.proofs.Crossing.{Slot-sync}
use Rattle.fab_pool.proofs.pool.Pool.evaluate_all.Goals as goal

pub by_threads-requires-sync-S : goal.by_threads-requires-sync-S
by_threads-requires-sync-S g c κs within = search (sendable, crosses, Slot-sync) depth 20
