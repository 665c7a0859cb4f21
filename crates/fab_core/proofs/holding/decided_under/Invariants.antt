use Rattle.std.proofs.Common.{◌≡◌, length, flat_map}
use Rattle.fab_protocol.specs.Versions.{left_by}
use Rattle.fab_nodes.specs.Seen.{only_decided}
use Rattle.fab_nodes.specs.Under.{last_under}
use Rattle.fab_core.proofs.holding.decided_under.Given as goal

-- behind the transactions that are left none changes it
abbrev pub invariant-transactions : goal.invariant-transactions
invariant-transactions g l =
    last_under (flat_map (λ p. left_by p.1) (only_decided l.nodes l.rest)) l.oid ≡ last_under (flat_map (λ p. left_by p.1) (only_decided l.nodes l.fn.prepared)) l.oid

abbrev pub decreases-transactions : goal.decreases-transactions
decreases-transactions g l = length l.rest
