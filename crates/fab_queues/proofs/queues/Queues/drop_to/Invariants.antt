use Rattle.std.proofs.Common.{◌≡◌, [], ℕ}
use Rattle.std.specs.Prelude.{nat_lt, if◌then◌else◌}
use Rattle.fab_queues.specs.Channels.{queue_of, sent_of, spare_of, with_at}
use Rattle.fab_queues.proofs.queues.Queues.drop_to.Given as goal

abbrev pub invariant-loop-a : goal.invariant-loop-a
invariant-loop-a l = record {
  nodes : l.self.nodes ≡ l.fn.self.nodes;
  sent : (x y : ℕ) → sent_of l.self x y ≡ sent_of l.fn.self x y;
  queue : (x y : ℕ) → queue_of l.self x y ≡ (if nat_lt x l.a then with_at (queue_of l.fn.self x) l.node [] y else queue_of l.fn.self x y);
  spare : (x y : ℕ) → spare_of l.self x y ≡ spare_of l.fn.self x y;
}
