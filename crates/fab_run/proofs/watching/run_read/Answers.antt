use denote.Param.Send.{sendable}
use Rattle.std.proofs.Crossing.{crosses}
use Rattle.fab_base.proofs.object.Object.TheSendSync as Object
use Rattle.fab_reads.proofs.reading.Reading.TheSendSync as Reading
use Rattle.fab_snap.proofs.Crossing.{SnapReader-send}
use Rattle.fab_run.proofs.watching.run_read.Goals as goal

pub join-requires-send-F : goal.join-requires-send-F
join-requires-send-F g c κs within = search (sendable, crosses, SnapReader-send, Object.the_send, Reading.the_send, Reading.the_field_send, c.type_bounds.sync-G) depth 30
