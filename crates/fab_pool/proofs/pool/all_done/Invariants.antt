use Rattle.std.specs.Prelude.{◌≡◌, ◌++◌, map}
use Rattle.std.specs.Vec.Iter.{into_iter_items}
use Rattle.fab_eval.specs.declared.done.Done.{Done}
use Rattle.fab_pool.proofs.pool.all_done.Given as goal

abbrev pub invariant-loop-slot : goal.invariant-loop-slot
invariant-loop-slot g l = map (λ (d : Done). d.job) l.dones.items ++ into_iter_items l.slot-iterator ≡ l.fn.slots.items
