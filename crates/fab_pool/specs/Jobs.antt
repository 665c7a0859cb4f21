-- Jobs that can be evaluated, and copies of them.
use Rattle.std.specs.Prelude.{◌≡◌, ℕ, false, List, Option, IfSome}
use Rattle.std.specs.List.{HoldsAt, IsDistinct, list_any}
use Rattle.fab_base.specs.FlatMap.{is_same}
use Rattle.fab_nested.specs.Nested.{names_of}
use Rattle.fab_eval.specs.Attempts.{is_made_in}
use Rattle.fab_eval.specs.declared.done.Done.{Done}
use Rattle.fab_eval.specs.declared.job.Job.{Job}

-- as an evaluation needs it: no answer is there twice, and none was made in the attempt
pub record IsReady (job : Job) : Type 0 where
  pub distinct : IsDistinct is_same (names_of job.answers)
  pub made_before : list_any (λ a. is_made_in job.tid a.0) job.answers ≡ false

-- the same job over a program that is shared
pub record IsCopy (job copy : Job) : Type 0 where
  pub program : copy.program.value ≡ job.program.value
  pub request : copy.request ≡ job.request
  pub tid : copy.tid ≡ job.tid
  pub answers : copy.answers ≡ job.answers

-- a copy of the job that what stands in this place has
abbrev pub IsOf : {X : Type 0} → (X → Job) → List X → ℕ → Job → Type 0
IsOf job xs place copy = HoldsAt (λ x. IsCopy (job x) copy) xs place

-- a copy of the job in this place
abbrev pub IsAt : List Job → ℕ → Job → Type 0
IsAt jobs place copy = HoldsAt (λ job. IsCopy job copy) jobs place

-- a job waits, with what a copy came to, if that is there
pub record IsKept (job : Job) (done : Option Done) : Type 0 where
  pub ready : IsReady job
  pub fits : IfSome done (λ d. IsCopy job d.job)
