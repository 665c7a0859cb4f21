use Rattle.std.proofs.Common.{◌≡◌, length, map}
use Rattle.fab_protocol.specs.Tables.{placed_all}
use Rattle.fab_protocol.specs.Versions.{raised, name_of}
use Rattle.fab_core.proofs.holding.put_writes.Given as goal

-- what is left is put behind what was put
abbrev pub invariant-writes : goal.invariant-writes
invariant-writes l = placed_all name_of (map raised l.rest) l.table.rows ≡ placed_all name_of (map raised l.writes) l.fn.table.rows

abbrev pub decreases-writes : goal.decreases-writes
decreases-writes l = length l.rest
