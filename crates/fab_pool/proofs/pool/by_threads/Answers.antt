use denote.Param.Send.{sendable}
use Rattle.std.proofs.Crossing.{crosses}
use Rattle.fab_pool.proofs.Crossing.{Placed-send}
use Rattle.fab_pool.proofs.pool.by_threads.Goals as goal

pub map_indices-requires-send-X : goal.map_indices-requires-send-X
map_indices-requires-send-X g c κs within = search (sendable, crosses, Placed-send) depth 20
