-- A job with an answer more, and one that needs it.
use Rattle.std.specs.Prelude.{ℕ, [], ◌∷◌, ◌++◌}
use Rattle.fab_base.specs.declared.object.Object.{Object}
use Rattle.fab_base.specs.declared.object.Oid.{Oid}
use Rattle.fab_eval.specs.declared.job.Job.{Job}

-- a job that needs an object at a site
pub record Pending : Type 0 where
  pub job : Job
  pub site : ℕ
  pub oid : Oid

-- the same job with one answer more, the last
abbrev pub answered : Oid → ℕ → Object → Job → Job
answered o version x job = record job { answers = job.answers ++ (o, version, x) ∷ [] }
