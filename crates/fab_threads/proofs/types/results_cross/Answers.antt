use denote.Param.Send.{sendable}
use Rattle.std.proofs.Crossing.{crosses}
use Rattle.fab_threads.proofs.Crossing.{Done-send}
use Rattle.fab_threads.proofs.types.results_cross.Goals as goal

pub send-requires-send-T : goal.send-requires-send-T
send-requires-send-T c κs = search (sendable, crosses, Done-send) depth 20
