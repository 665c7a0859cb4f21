use denote.Param.Send.{sendable}
use Rattle.std.proofs.Crossing.{crosses}
use Rattle.fab_threads.proofs.Crossing.{Job-send}
use Rattle.fab_threads.proofs.types.jobs_cross.Goals as goal

pub send-requires-send-T : goal.send-requires-send-T
send-requires-send-T c κs = search (sendable, crosses, Job-send) depth 20
