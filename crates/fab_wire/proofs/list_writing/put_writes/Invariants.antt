use Rattle.std.proofs.Common.{◌≡◌, ◌++◌, take}
use Rattle.std.specs.List.{All, flat_map}
use Rattle.fab_base.specs.FieldSpelling.{write_bytes, IsWrite, sent_version}
use Rattle.fab_wire.proofs.list_writing.put_writes.Given as goal

abbrev pub invariant-loop-write : goal.invariant-loop-write
invariant-loop-write l = record { bytes : l.out ≡ l.initial.out ++ flat_map write_bytes (take l.write-index l.writes); fits : All (IsWrite sent_version) (take l.write-index l.writes) }
