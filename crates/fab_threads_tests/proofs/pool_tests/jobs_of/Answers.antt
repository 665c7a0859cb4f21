use Rattle.std.specs.Prelude.{◌++◌, ◌∷◌, []}
use Rattle.std.proofs.lemmas.List.Elements.{All-push, All-same}
use Rattle.fab_pool.specs.Jobs.{IsReady}
use Rattle.fab_threads_tests.proofs.pool_tests.jobs_of.Goals as goal

pub loop-worker-preserved : goal.loop-worker-preserved
loop-worker-preserved c =
    let jobs = c.loop-worker.jobs.items in
    let job = c.in_ok-job_of.field-0 in
    All-same IsReady c.push.new.self.items (jobs ++ job ∷ []) c.in_ok-push.ensures.items (All-push IsReady jobs job c.loop-worker.invariant c.in_ok-job_of.ensures.ready)
