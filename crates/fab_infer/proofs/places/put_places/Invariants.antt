use Rattle.std.proofs.Common.{◌≡◌, ◌++◌, length}
use Rattle.fab_holes.specs.Chosen.{places_in}
use Rattle.fab_infer.proofs.places.put_places.Given as goal

abbrev pub invariant-locals : goal.invariant-locals
invariant-locals l = l.out ++ places_in l.count l.rest ≡ l.initial.out ++ places_in l.count l.locals

abbrev pub decreases-locals : goal.decreases-locals
decreases-locals l = length l.rest
