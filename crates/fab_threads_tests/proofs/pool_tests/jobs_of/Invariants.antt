use Rattle.std.specs.Prelude.{All}
use Rattle.fab_pool.specs.Jobs.{IsReady}
use Rattle.fab_threads_tests.proofs.pool_tests.jobs_of.Given as goal

abbrev pub invariant-loop-worker : goal.invariant-loop-worker
invariant-loop-worker l = All IsReady l.jobs.items
