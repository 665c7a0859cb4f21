use Rattle.std.proofs.Common.{◌≡◌, reverse, vec_len}
use Rattle.fab_protocol.specs.Tables.{placed_all}
use Rattle.fab_protocol.specs.Versions.{name_of}
use Rattle.fab_versions.proofs.row_list.RowList.put_all.Given as goal

-- what is left is put behind what was put
abbrev pub invariant-loop-oid : goal.invariant-loop-oid
invariant-loop-oid l = placed_all name_of (reverse l.rest.items) l.self.rows ≡ placed_all name_of l.fn.rows.items l.fn.self.rows

abbrev pub decreases-loop-oid : goal.decreases-loop-oid
decreases-loop-oid l = vec_len l.rest
