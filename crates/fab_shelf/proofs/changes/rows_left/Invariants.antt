use Rattle.std.proofs.Common.{◌≡◌, take}
use Rattle.std.specs.List.{flat_map}
use Rattle.fab_protocol.specs.Stores.{prepared_as}
use Rattle.fab_protocol.specs.Versions.{left_by}
use Rattle.fab_shelf.proofs.changes.rows_left.Given as goal

abbrev pub invariant-loop-one : goal.invariant-loop-one
invariant-loop-one l = l.rows ≡ flat_map (λ p. left_by p.1) (prepared_as l.tid (take l.one-index l.prepared))
