use Rattle.std.proofs.Common.{◌≡◌, ◌++◌, drop}
use Rattle.std.specs.List.{flat_map}
use Rattle.fab_holes.specs.Chosen.{places_in}
use Rattle.fab_infer.proofs.places.places.Given as goal

abbrev pub invariant-loop-method : goal.invariant-loop-method
invariant-loop-method l = l.out ++ flat_map (λ m. places_in l.count m.locals) (drop l.method-index l.method-items) ≡ flat_map (λ m. places_in l.count m.locals) l.method-items
