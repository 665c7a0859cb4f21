use Rattle.std.proofs.Common.{◌<◌, ◌↔◌, length, map, drop}
use Rattle.fab_tree.specs.Limits.{greatest}
use Rattle.fab_bundle.proofs.limits.has_more_parameters.Given as goal

abbrev pub invariant-loop-method : goal.invariant-loop-method
invariant-loop-method l =
    (l.limit < greatest (map (λ m. length m.parameters) l.methods)) ↔ (l.limit < greatest (map (λ m. length m.parameters) (drop l.method-index l.methods)))
