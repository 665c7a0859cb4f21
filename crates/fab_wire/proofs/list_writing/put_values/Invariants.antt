use Rattle.std.proofs.Common.{◌≡◌, ◌++◌, take}
use Rattle.std.specs.List.{All, flat_map}
use Rattle.fab_base.specs.FieldSpelling.{value_bytes, IsValue, sent_version}
use Rattle.fab_wire.proofs.list_writing.put_values.Given as goal

abbrev pub invariant-loop-value : goal.invariant-loop-value
invariant-loop-value l = record { bytes : l.out ≡ l.initial.out ++ flat_map value_bytes (take l.value-index l.values); fits : All (IsValue sent_version) (take l.value-index l.values) }
