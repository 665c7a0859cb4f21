-- What is sent in an event, and what of it waits.
use Rattle.std.specs.Prelude.{◌≡◌, ◌==◌, ℕ, Bool, true, false, if◌then◌else◌, List, [], ◌∷◌, ◌++◌, map, length, Option, Some, None}
use Rattle.std.specs.List.{filter}
use Rattle.fab_rights.specs.declared.rights.Rights.{Rights}
use Rattle.fab_rights.specs.Computed.{is_node}
use Rattle.fab_queues.specs.Channels.{Network, queue_of, sent_of}
use Rattle.fab_world.specs.Machine.{with_at}
use Rattle.fab_node.specs.Standing.{NodeModel}
use Rattle.fab_nodes.specs.Slots.{slot}

-- a node that has no slot runs nothing
abbrev pub is_up_in : Option NodeModel → Bool
is_up_in None = false
is_up_in (Some x) = x.up

abbrev pub is_up_at : List (Option NodeModel) → ℕ → Bool
is_up_at nodes n = is_up_in (slot nodes n)

-- what is for one receiver, in order
abbrev pub bytes_to : ℕ → List (ℕ × List ℕ) → List (List ℕ)
bytes_to b sends = map (λ x. x.1) (filter (λ x. x.0 == b) sends)

-- what is sent to a number that is no node goes nowhere
abbrev pub bytes_for : Rights → ℕ → List (ℕ × List ℕ) → List (List ℕ)
bytes_for rights b sends = if is_node rights b then bytes_to b sends else []

-- of what is sent to a node that isn't up nothing waits
abbrev pub waiting_at : (ℕ → Bool) → Rights → ℕ → List (ℕ × List ℕ) → List (List ℕ)
waiting_at up rights b sends = if up b then bytes_for rights b sends else []

-- node n sent these, in their order
pub record AreSentOut (rights : Rights) (up : ℕ → Bool) (n : ℕ) (sends : List (ℕ × List ℕ)) (old new : Network) : Type 0 where
  pub lanes : new.nodes ≡ old.nodes
  pub sent : (a b : ℕ) → sent_of new a b ≡ with_at (sent_of old) n (λ b. sent_of old n b ++ bytes_for rights b sends) a b
  pub queue : (a b : ℕ) → queue_of new a b ≡ with_at (queue_of old) n (λ b. queue_of old n b ++ waiting_at up rights b sends) a b

-- but for room nothing has changed
pub record OnlyGainsLanes (old new : Network) : Type 0 where
  pub lanes : new.nodes ≡ old.nodes
  pub sent : (a b : ℕ) → sent_of new a b ≡ sent_of old a b
  pub queue : (a b : ℕ) → queue_of new a b ≡ queue_of old a b
