use denote.Param.Send.{sendable}
use Rattle.std.proofs.Crossing.{crosses}
use Rattle.fab_snap.proofs.Crossing.{SnapWriter-send}
use Rattle.fab_snap.proofs.tests.a_thread_reads_beside_the_writer.Goals as goal

pub join-requires-send-F : goal.join-requires-send-F
join-requires-send-F c κs within = search (sendable, crosses, SnapWriter-send) depth 20
