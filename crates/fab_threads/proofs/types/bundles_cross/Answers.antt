use denote.Param.Send.{sendable}
use Rattle.std.proofs.Crossing.{crosses}
use Rattle.fab_threads.proofs.Crossing.{Resolved-send, Resolved-sync}
use Rattle.fab_threads.proofs.types.bundles_cross.Goals as goal

pub send-requires-send-T : goal.send-requires-send-T
send-requires-send-T c κs = search (sendable, crosses, Resolved-send, Resolved-sync) depth 20

pub share-requires-sync-T : goal.share-requires-sync-T
share-requires-sync-T c κs = search (sendable, crosses, Resolved-send, Resolved-sync) depth 20
