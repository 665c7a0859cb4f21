use denote.Param.Send.{sendable}
use Rattle.std.proofs.Crossing.{crosses}
use Rattle.fab_threads.proofs.Crossing.{Node-send}
use Rattle.fab_threads.proofs.types.nodes_cross.Goals as goal

pub send-requires-send-T : goal.send-requires-send-T
send-requires-send-T c κs = search (sendable, crosses, Node-send) depth 20
