-- What an evaluator has: its program, and the job that it evaluated last.
use Rattle.std.specs.Prelude.{◌≡◌, ℕ, ◌%◌, List, Option, None, length, slice_index_or}
use Rattle.std.specs.List.{All}
use Rattle.fab_tree.specs.declared.resolved.Resolved.{Resolved}
use Rattle.fab_eval.specs.declared.job.Job.{Job}
use Rattle.fab_eval.specs.declared.turn.Turn.{Turn}
use Rattle.fab_eval.specs.declared.turn.Turn.TheVariants.{Done, Paused}

-- the job of a turn
abbrev pub job_of : Turn → Job
job_of (Done done) = done.job
job_of (Paused paused) = paused.job

-- a job is of this program
abbrev pub IsOf : Resolved → Job → Type 0
IsOf program job = job.program.value ≡ program

-- an evaluator of a program, with its last job
pub record EvaluatorModel : Type 0 where
  pub program : Resolved
  pub last : Option Job

-- as many of them
pub record EvaluatorsModel : Type 0 where
  pub program : Resolved
  pub lasts : List (Option Job)

-- the last job of a worker, which shares its place with those whose numbers have the same rest by 64
abbrev pub last_of : EvaluatorsModel → ℕ → Option Job
last_of all worker = slice_index_or all.lasts (worker % 64) None

-- there are 64 of them, all of this program
pub record AreOf (program : Resolved) (all : List EvaluatorModel) : Type 0 where
  pub long : length all ≡ 64
  pub each : All (λ e. e.program ≡ program) all
