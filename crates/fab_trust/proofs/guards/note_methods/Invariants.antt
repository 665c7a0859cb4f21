use Rattle.std.proofs.Common.{◌≡◌, drop}
use Rattle.std.specs.List.{flat_map}
use Rattle.fab_trust.specs.Noted.{method_guards, noted}
use Rattle.fab_trust.proofs.guards.note_methods.Given as goal

abbrev pub invariant-loop-method : goal.invariant-loop-method
invariant-loop-method l =
    noted l.scope.start.now l.found (flat_map (method_guards l.scope.pcs.now) (drop l.method-index l.methods))
    ≡ noted l.scope.start.now l.initial.found (flat_map (method_guards l.scope.pcs.now) l.methods)
