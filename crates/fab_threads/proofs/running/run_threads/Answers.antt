use denote.Param.Send.{sendable}
use Rattle.std.proofs.Crossing.{crosses}
use Rattle.fab_threads.proofs.Crossing.{Exchange-send}
use Rattle.fab_threads.proofs.running.run_threads.Goals as goal

pub run_turning-requires-send-X : goal.run_turning-requires-send-X
run_turning-requires-send-X g c κs within = search (sendable, crosses, Exchange-send) depth 20
