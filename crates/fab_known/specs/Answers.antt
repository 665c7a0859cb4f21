-- Objects that answer.
use Rattle.std.specs.Prelude.{ℕ, Bool, not, ◌&&◌, ◌||◌, ◌==◌, nat_lt}
use Rattle.fab_base.specs.declared.object.Oid.{Oid}
use Rattle.fab_base.specs.declared.object.Tid.{Tid}
use Rattle.fab_base.specs.FlatMap.{is_same}
use Rattle.fab_base.specs.Tids.{is_above}
use Rattle.fab_protocol.specs.Versions.{Row, is_tid, maker_of}
use Rattle.fab_rights.specs.declared.rights.Rights.{Rights}
use Rattle.fab_rights.specs.Computed.{suits}

-- this row, from a store to an attempt, is the object that a worker in its own attempt waits for
abbrev pub is_answer : Rights → Tid → Oid → ℕ → Tid → Row → Bool
is_answer rights own wanted sender t row =
    is_tid t own && is_same row.0 wanted && (row.0.store == sender)
    && suits rights row.0 row.2 && nat_lt 0 row.1 && (not (row.0.worker == own.worker) || is_above own (maker_of row.0))
