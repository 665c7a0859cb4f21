-- Queues among two nodes, computed: 0 has sent two messages to 1, of which the first was taken, and 1 one to 0 that was lost.
use Rattle.std.proofs.Common.{◌≡◌, ℕ, List, [], ◌∷◌, refl, ap}
use Rattle.fab_queues.specs.Channels.{Traffic, Network, emptied, lost, no_traffic, popped, pushed, queue_of, sent_of, spare_of, traffic_at, with_at, with_pair}

first : List ℕ
first = 1 ∷ 2 ∷ []

second : List ℕ
second = []

other : List ℕ
other = 7 ∷ []

abbrev roomy : Traffic
roomy = record no_traffic { spare = 2 }

abbrev network : Network
network = record { nodes = 2; pairs = no_traffic ∷ popped (pushed second (pushed first roomy)) ∷ lost other roomy ∷ no_traffic ∷ [] }

sent_in_order : sent_of network 0 1 ≡ first ∷ second ∷ []
unfolding sent_of
sent_in_order = refl

second_waits : queue_of network 0 1 ≡ second ∷ []
unfolding queue_of
second_waits = refl

-- what was lost was sent, and doesn't wait
lost_is_sent : sent_of network 1 0 ≡ other ∷ []
unfolding sent_of
lost_is_sent = refl

lost_waits_for_nobody : queue_of network 1 0 ≡ []
unfolding queue_of
lost_waits_for_nobody = refl

no_room_left : spare_of network 0 1 ≡ 0
unfolding spare_of
no_room_left = refl

room_for_one : spare_of network 1 0 ≡ 1
unfolding spare_of
room_for_one = refl

-- a number that is no node: its place would be that of another pair
nothing_to_2 : traffic_at network 0 2 ≡ no_traffic
nothing_to_2 = refl

nothing_from_2 : traffic_at network 2 0 ≡ no_traffic
nothing_from_2 = refl

-- to take the front twice isn't to take it once
one_front : popped (pushed second (pushed first roomy)) ≡ emptied (pushed second (pushed first roomy)) → ⊥
one_front h = let e : second ∷ [] ≡ [] = ap (λ (t : Traffic). t.waiting) h in cc

-- one pair's queue alone is changed
at_the_pair : with_pair (queue_of network) 0 1 [] 0 1 ≡ []
at_the_pair = refl

at_the_other_direction : with_pair (queue_of network) 0 1 [] 1 0 ≡ queue_of network 1 0
at_the_other_direction = refl

to_node_1 : with_at (queue_of network 0) 1 [] 1 ≡ []
to_node_1 = refl

to_node_0 : with_at (queue_of network 0) 1 [] 0 ≡ queue_of network 0 0
to_node_0 = refl
