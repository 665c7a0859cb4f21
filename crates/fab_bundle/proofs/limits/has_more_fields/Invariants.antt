use Rattle.std.proofs.Common.{◌<◌, ◌↔◌, length, map, drop}
use Rattle.fab_tree.specs.Limits.{greatest}
use Rattle.fab_bundle.proofs.limits.has_more_fields.Given as goal

abbrev pub invariant-loop-class : goal.invariant-loop-class
invariant-loop-class l =
    (l.limit < greatest (map (λ c. length c.fields) l.classes)) ↔ (l.limit < greatest (map (λ c. length c.fields) (drop l.class-index l.classes)))
