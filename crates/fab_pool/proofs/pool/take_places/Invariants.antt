use Rattle.std.specs.Prelude.{All}
use Rattle.fab_pool.specs.Jobs.{IsOf}
use Rattle.fab_pool.specs.declared.pool.Placed.{Placed}
use Rattle.fab_pool.proofs.pool.take_places.Given as goal

abbrev pub invariant-loop : goal.invariant-loop
invariant-loop g l =
    (goal.iterator-loop g).can_next l.iterator' × (goal.iterator-loop g).is_finite l.iterator'
    × All (λ (placed : Placed). IsOf g.S.Waiting.job l.slots placed.place placed.done.job) l.taken.items
