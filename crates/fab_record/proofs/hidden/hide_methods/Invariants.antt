use Rattle.std.proofs.Common.{◌≡◌, ◌++◌, drop}
use Rattle.std.specs.List.{flat_map}
use Rattle.fab_rights.specs.Computed.{has_bit}
use Rattle.fab_record.specs.Hidden.{hidden_method}
use Rattle.fab_record.proofs.hidden.hide_methods.Given as goal

abbrev pub invariant-loop-method : goal.invariant-loop-method
invariant-loop-method l =
    l.out ++ flat_map (hidden_method (has_bit l.labels) l.start.classes) (drop l.method-index l.method-items)
    ≡ l.initial.out ++ flat_map (hidden_method (has_bit l.labels) l.start.classes) l.method-items
