use Rattle.std.proofs.Common.{◌≡◌, ◌<◌, ◌≤◌, ℕ, false, [], length, reverse}
use Rattle.fab_queues.specs.Channels.{Network, queue_of, spare_of}
use Rattle.fab_nodes.specs.Transit.{AreSentOut, bytes_to, is_up_at}
use Rattle.fab_nodes.proofs.sending.send.Given as goal

-- what is left goes on to the whole
abbrev pub invariant-loop-to : goal.invariant-loop-to
invariant-loop-to g l = record {
  lanes : l.queues.nodes ≡ 64;
  room : (b : ℕ) → b < 64 → length (bytes_to b (reverse l.rest.items)) ≤ spare_of l.queues l.n b;
  idle : (b : ℕ) → is_up_at l.nodes b ≡ false → queue_of l.queues l.n b ≡ [];
  goes : (last : Network) → AreSentOut l.rights (is_up_at l.nodes) l.n (reverse l.rest.items) l.queues last
      → AreSentOut l.rights (is_up_at l.nodes) l.n l.fn.sends l.fn.queues last;
}

abbrev pub decreases-loop-to : goal.decreases-loop-to
decreases-loop-to g l = goal.left-loop-to g l
