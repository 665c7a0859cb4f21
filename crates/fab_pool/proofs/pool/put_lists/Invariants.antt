use Rattle.std.specs.Prelude.{◌≡◌, All}
use Rattle.std.specs.Vec.Iter.{into_iter_items}
use Rattle.fab_pool.specs.Jobs.{IsAt}
use Rattle.fab_pool.specs.declared.pool.Placed.{Placed}
use Rattle.fab_pool.proofs.pool.put_lists.Given as goal

abbrev pub invariant-loop-list : goal.invariant-loop-list
invariant-loop-list l =
    (l.slots.items ≡ l.initial.slots.items)
    × All (λ list. All (λ (placed : Placed). IsAt l.initial.slots.items placed.place placed.done.job) list.items) (into_iter_items l.list-iterator)
