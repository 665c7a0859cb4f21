-- Messages by sender and receiver.
use Rattle.std.specs.Prelude.{ℕ, ◌+◌, ◌*◌, ◌==◌, List, [], map, slice_get, unwrap_or}
use Rattle.std.specs.List.{filter}
use Rattle.fab_base.specs.declared.message.Message.{Message}
use Rattle.fab_base.specs.MessageSpelling.{spelled}

-- of lists by senders and then by receivers, each below 64
abbrev pub messages_in : List (List (List ℕ)) → ℕ → ℕ → List (List ℕ)
messages_in lists n d = unwrap_or (slice_get lists (n * 64 + d)) []

-- those to a receiver
abbrev pub messages_to : ℕ → List (ℕ × List ℕ) → List (List ℕ)
messages_to d sends = map (λ y. y.1) (filter (λ y. y.0 == d) sends)

abbrev pub all_spelled : List (ℕ × Message) → List (ℕ × List ℕ)
all_spelled xs = map (λ y. (y.0, spelled y.1)) xs
