use Rattle.std.proofs.Common.{◌≡◌}
use Rattle.fab_protocol.specs.Tables.{placed_all}
use Rattle.fab_protocol.specs.Versions.{name_of}
use Rattle.fab_shelf.proofs.changes.put_rows.Given as goal

abbrev pub invariant-loop-oid : goal.invariant-loop-oid
invariant-loop-oid l = l.table.rows ≡ placed_all name_of l.yielded l.initial.table.rows
