use denote.Param.Send.{sendable}
use Rattle.std.proofs.Crossing.{crosses}
use Rattle.fab_run.proofs.Crossing.{Follower-send}
use Rattle.fab_run.proofs.board.Board.TheSendSync as Board
use Rattle.fab_run.proofs.watching.run_beside.Goals as goal

pub join-run-requires-send-F : goal.join-run-requires-send-F
join-run-requires-send-F g c κs within = search (sendable, crosses, Follower-send, Board.the_sync) depth 30
