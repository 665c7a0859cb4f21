use Rattle.std.proofs.Common.{◌≡◌, ◌++◌, take}
use Rattle.std.specs.List.{All, flat_map}
use Rattle.fab_base.specs.FieldSpelling.{create_bytes, IsCreate, sent_version}
use Rattle.fab_wire.proofs.list_writing.put_creates.Given as goal

abbrev pub invariant-loop-create : goal.invariant-loop-create
invariant-loop-create l = record { bytes : l.out ≡ l.initial.out ++ flat_map create_bytes (take l.create-index l.creates); fits : All (IsCreate sent_version) (take l.create-index l.creates) }
