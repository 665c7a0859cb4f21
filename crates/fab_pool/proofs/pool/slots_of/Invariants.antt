use Rattle.std.specs.Prelude.{◌≡◌, ◌++◌, All}
use Rattle.std.specs.Vec.Iter.{into_iter_items}
use Rattle.fab_pool.specs.Jobs.{IsReady}
use Rattle.fab_pool.proofs.pool.slots_of.Given as goal

abbrev pub invariant-loop-job : goal.invariant-loop-job
invariant-loop-job l = (l.slots.items ++ into_iter_items l.job-iterator ≡ l.fn.jobs) × All IsReady (into_iter_items l.job-iterator)
