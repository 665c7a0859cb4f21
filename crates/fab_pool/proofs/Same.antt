-- Jobs and their copies.
use Rattle.std.specs.Prelude.{◌≡◌}
use Rattle.std.proofs.Common.{refl}
use Rattle.fab_eval.specs.Outcomes.{meant_of, outcome_of}
use Rattle.fab_eval.specs.declared.job.Job.{Job}
use Rattle.fab_pool.specs.Jobs.{IsCopy, IsReady}

module _ (job copy : Job) (is : IsCopy job copy) where
  -- it can be evaluated, too
  pub ready_copy : IsReady job → IsReady copy
  ready_copy h = record {
    distinct = rw is.answers h.distinct;
    made_before = rw (is.answers, is.tid) h.made_before;
  }

  -- it means the same
  pub same_meant : meant_of copy ≡ meant_of job
  same_meant = rw (is.program, is.request, is.tid, is.answers) refl

  pub same_outcome : outcome_of copy ≡ outcome_of job
  same_outcome = rw (is.program, is.request, is.tid, is.answers) refl
