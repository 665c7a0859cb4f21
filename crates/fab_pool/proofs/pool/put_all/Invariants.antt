use Rattle.std.specs.Prelude.{◌≡◌, All}
use Rattle.std.specs.Vec.Iter.{into_iter_items}
use Rattle.fab_pool.specs.Jobs.{IsAt}
use Rattle.fab_pool.specs.declared.pool.Placed.{Placed}
use Rattle.fab_pool.proofs.pool.put_all.Given as goal

abbrev pub invariant-loop-place : goal.invariant-loop-place
invariant-loop-place l = (l.slots.items ≡ l.initial.slots.items) × All (λ (placed : Placed). IsAt l.initial.slots.items placed.place placed.done.job) (into_iter_items l.place-iterator)
