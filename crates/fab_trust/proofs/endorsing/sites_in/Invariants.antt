use Rattle.std.proofs.Common.{◌≡◌, ◌++◌, drop}
use Rattle.std.specs.List.{flat_map}
use Rattle.fab_rights.specs.Computed.{has_bit}
use Rattle.fab_tree.specs.declared.resolved.Method.{Method}
use Rattle.fab_downgrades.specs.Downgraded.{downgraded_by}
use Rattle.fab_trust.specs.Endorsing.{sites_let_in}
use Rattle.fab_trust.proofs.endorsing.sites_in.Given as goal

abbrev pub invariant-loop-method : goal.invariant-loop-method
invariant-loop-method l =
    l.sites ++ flat_map (λ (m : Method). sites_let_in (has_bit l.labels) (downgraded_by m)) (drop l.method-index l.methods)
    ≡ flat_map (λ (m : Method). sites_let_in (has_bit l.labels) (downgraded_by m)) l.methods
