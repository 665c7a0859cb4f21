use Rattle.std.proofs.Common.{◌≡◌, length}
use Rattle.fab_protocol.specs.Stores.{behind}
use Rattle.fab_nodes.specs.Seen.{only_decided}
use Rattle.fab_core.proofs.holding.put_decided.Given as goal

-- what is left is put behind what was put
abbrev pub invariant-transactions : goal.invariant-transactions
invariant-transactions g l = behind (only_decided l.nodes l.rest) l.table.rows ≡ behind (only_decided l.nodes l.fn.prepared) l.fn.table.rows

abbrev pub decreases-transactions : goal.decreases-transactions
decreases-transactions g l = length l.rest
