use Rattle.std.proofs.Common.{◌≡◌, length, map}
use Rattle.fab_protocol.specs.Tables.{placed_all}
use Rattle.fab_protocol.specs.Versions.{begun, name_of}
use Rattle.fab_core.proofs.holding.put_creates.Given as goal

-- what is left is put behind what was put
abbrev pub invariant-creates : goal.invariant-creates
invariant-creates l = placed_all name_of (map begun l.rest) l.table.rows ≡ placed_all name_of (map begun l.creates) l.fn.table.rows

abbrev pub decreases-creates : goal.decreases-creates
decreases-creates l = length l.rest
