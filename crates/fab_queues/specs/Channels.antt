-- Queues between nodes as contracts see them: of each ordered pair of nodes what was ever sent, what of it still waits,
-- and for how many messages more there is room. A message is a list of bytes.
use Rattle.std.specs.Prelude.{ℕ, ◌+◌, ◌-◌, ◌*◌, ◌==◌, ◌&&◌, nat_lt, if◌then◌else◌, List, [], ◌∷◌, ◌++◌, slice_index_or}

-- of one pair
pub record Traffic : Type 0 where
  pub sent : List (List ℕ)
  pub waiting : List (List ℕ)
  pub spare : ℕ

-- of all pairs: those from node 0 first, each in the order of the nodes that they lead to
pub record Network : Type 0 where
  pub nodes : ℕ
  pub pairs : List Traffic

abbrev pub no_traffic : Traffic
no_traffic = record { sent = []; waiting = []; spare = 0 }

-- from a to b; a number that is no node sends and gets nothing
abbrev pub traffic_at : Network → ℕ → ℕ → Traffic
traffic_at network a b =
    if nat_lt a network.nodes && nat_lt b network.nodes then slice_index_or network.pairs (a * network.nodes + b) no_traffic
    else no_traffic

unfoldable pub sent_of : Network → ℕ → ℕ → List (List ℕ)
sent_of network a b = (traffic_at network a b).sent

unfoldable pub queue_of : Network → ℕ → ℕ → List (List ℕ)
queue_of network a b = (traffic_at network a b).waiting

unfoldable pub spare_of : Network → ℕ → ℕ → ℕ
spare_of network a b = (traffic_at network a b).spare

-- ---- changes

-- f, but for x at n
abbrev pub with_at : {A : Type 0} → (ℕ → A) → ℕ → A → ℕ → A
with_at f n x m = if m == n then x else f m

-- f, but for x at the pair of a and b
abbrev pub with_pair : {A : Type 0} → (ℕ → ℕ → A) → ℕ → ℕ → A → ℕ → ℕ → A
with_pair f a b x = with_at f a (with_at (f a) b x)

-- a list without its front
abbrev pub rest_of : {A : Type 0} → List A → List A
rest_of [] = []
rest_of (x ∷ xs) = xs

-- one message more was sent, and waits
abbrev pub pushed : List ℕ → Traffic → Traffic
pushed message t = record { sent = t.sent ++ message ∷ []; waiting = t.waiting ++ message ∷ []; spare = t.spare - 1 }

-- one message more was sent, and nothing waits
abbrev pub lost : List ℕ → Traffic → Traffic
lost message t = record { sent = t.sent ++ message ∷ []; waiting = []; spare = t.spare - 1 }

-- the front was taken
abbrev pub popped : Traffic → Traffic
popped t = record t { waiting = rest_of t.waiting }

-- nothing waits
abbrev pub emptied : Traffic → Traffic
emptied t = record t { waiting = [] }
