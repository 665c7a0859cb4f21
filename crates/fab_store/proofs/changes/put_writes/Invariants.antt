use Rattle.std.proofs.Common.{◌≡◌, ◌+◌, ◌≤◌, length, map, reverse}
use Rattle.fab_protocol.specs.Tables.{placed_all}
use Rattle.fab_protocol.specs.Versions.{raised, name_of}
use Rattle.fab_store.proofs.changes.put_writes.Given as goal

-- what is left is put behind what was put
abbrev pub invariant-loop-oid : goal.invariant-loop-oid
invariant-loop-oid l = record {
  rows : placed_all name_of (map raised (reverse l.rest.items)) l.table.rows ≡ placed_all name_of (map raised l.fn.writes) l.fn.table.rows;
  room : length l.rest.items ≤ l.table.spare;
  used : l.fn.table.spare + length l.rest.items ≤ l.table.spare + length l.fn.writes;
}

abbrev pub decreases-loop-oid : goal.decreases-loop-oid
decreases-loop-oid l = goal.left-loop-oid l
