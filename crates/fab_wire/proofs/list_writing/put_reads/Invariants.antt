use Rattle.std.proofs.Common.{◌≡◌, ◌++◌, take}
use Rattle.std.specs.List.{All, flat_map}
use Rattle.fab_base.specs.FieldSpelling.{read_bytes, IsRead}
use Rattle.fab_wire.proofs.list_writing.put_reads.Given as goal

abbrev pub invariant-loop-read : goal.invariant-loop-read
invariant-loop-read l = record { bytes : l.out ≡ l.initial.out ++ flat_map read_bytes (take l.read-index l.reads); fits : All (IsRead) (take l.read-index l.reads) }
