use Rattle.std.proofs.Common.{◌≡◌, map}
use Rattle.std.specs.List.{range_with_len}
use Rattle.fab_protocol.specs.Stores.{unheard}
use Rattle.fab_store.proofs.senders.none_heard.Given as goal

abbrev pub invariant-loop-node : goal.invariant-loop-node
invariant-loop-node l = l.senders.items ≡ map unheard (range_with_len 0 l.node)
