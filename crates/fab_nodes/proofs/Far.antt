-- Nothing is sent between numbers that are no nodes.
use Rattle.std.proofs.Common.{◌≡◌, ◌⊎◌, ℕ, ◌+◌, ◌*◌, ◌≤◌, Bool, not, true, false, cond, ◌&&◌, List, [], ap, inl, inr, arith}
use Rattle.std.specs.Prelude.{nat_lt, slice_index_or}
use Rattle.std.proofs.lemmas.Bool.{and_left, and_right, le-ltb}
use Rattle.fab_queues.specs.Channels.{Network, no_traffic, queue_of, sent_of}
use Rattle.fab_world.specs.Machine.{is_empty}
use Rattle.fab_nodes.specs.Seen.{waits_in}

-- nothing is sent from or to a number that is too great
sent_outside : (queues : Network) (a b : ℕ) → nat_lt a queues.nodes && nat_lt b queues.nodes ≡ false → sent_of queues a b ≡ []
unfolding sent_of
sent_outside queues a b h = ap (λ t. (cond t (slice_index_or queues.pairs (a * queues.nodes + b) no_traffic) no_traffic).sent) h

queue_outside : (queues : Network) (a b : ℕ) → nat_lt a queues.nodes && nat_lt b queues.nodes ≡ false → queue_of queues a b ≡ []
unfolding queue_of
queue_outside queues a b h = ap (λ t. (cond t (slice_index_or queues.pairs (a * queues.nodes + b) no_traffic) no_traffic).waiting) h

-- and nothing waits there
pub far_sender : (queues : Network) (a b : ℕ) → queues.nodes ≡ 64 → 64 ≤ a → waits_in queues a b ≡ false
far_sender queues a b n h =
    ap (λ q. not (is_empty q))
    (queue_outside queues a b (and_left (nat_lt a queues.nodes) (nat_lt b queues.nodes) (le-ltb a queues.nodes (omega arith))))

pub far_receiver : (queues : Network) (a b : ℕ) → queues.nodes ≡ 64 → 64 ≤ b → waits_in queues a b ≡ false
far_receiver queues a b n h =
    ap (λ q. not (is_empty q))
    (queue_outside queues a b (and_right (nat_lt a queues.nodes) (nat_lt b queues.nodes) (le-ltb b queues.nodes (omega arith))))

pub far_sent : (queues : Network) (a b : ℕ) → queues.nodes ≡ 64 → (64 ≤ a) ⊎ (64 ≤ b) → sent_of queues a b ≡ []
far_sent queues a b n (inl h) = sent_outside queues a b (and_left (nat_lt a queues.nodes) (nat_lt b queues.nodes) (le-ltb a queues.nodes (omega arith)))
far_sent queues a b n (inr h) = sent_outside queues a b (and_right (nat_lt a queues.nodes) (nat_lt b queues.nodes) (le-ltb b queues.nodes (omega arith)))
