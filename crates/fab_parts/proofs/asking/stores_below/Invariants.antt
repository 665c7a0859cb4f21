use Rattle.std.proofs.Common.{◌≡◌}
use Rattle.std.specs.List.{filter, range_with_len}
use Rattle.fab_rights.specs.Computed.{is_store}
use Rattle.fab_parts.proofs.asking.stores_below.Given as goal

abbrev pub invariant-loop-node : goal.invariant-loop-node
invariant-loop-node l = l.stores.items ≡ filter (is_store l.rights) (range_with_len 0 l.node)
