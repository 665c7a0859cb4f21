use Rattle.std.specs.Prelude.{◌≡◌, []}
use Rattle.std.specs.List.{IsDistinct}
use Rattle.std.proofs.Common.{refl}
use Rattle.fab_eval.specs.declared.job.Job.{Job}
use Rattle.fab_pool.specs.Jobs.{IsReady}
use Rattle.fab_threads_tests.proofs.pool_tests.job_of.Goals as goal

-- who has no answers may ask for any
no_answers : (job : Job) → job.answers ≡ [] → IsReady job
unfolding IsDistinct
no_answers job is = record { distinct = rw is tt; made_before = rw is refl }

pub returns-clause-ready : goal.returns-clause-ready
returns-clause-ready c = no_answers _ c.new-2.ensures
