use Rattle.std.proofs.Common.{◌≡◌, ◌<◌, ◌≤◌, ℕ, length}
use Rattle.fab_queues.specs.Channels.{spare_of}
use Rattle.fab_nodes.specs.Transit.{OnlyGainsLanes, bytes_to}
use Rattle.fab_nodes.proofs.sending.make_room.Given as goal

abbrev pub invariant-loop-to : goal.invariant-loop-to
invariant-loop-to l = record {
  gains : OnlyGainsLanes l.fn.queues l.queues;
  room : (b : ℕ) → b < l.to → length (bytes_to b l.sends) ≤ spare_of l.queues l.n b;
}
