use Rattle.std.proofs.Common.{◌<◌, ◌↔◌, length, map, drop}
use Rattle.fab_tree.specs.Limits.{greatest, locals_of}
use Rattle.fab_bundle.proofs.limits.has_more_locals.Given as goal

abbrev pub invariant-loop-method : goal.invariant-loop-method
invariant-loop-method l =
    (l.limit < greatest (map (λ m. length (locals_of m)) l.methods)) ↔ (l.limit < greatest (map (λ m. length (locals_of m)) (drop l.method-index l.methods)))
