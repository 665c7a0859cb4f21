-- What a pause keeps.
use Rattle.std.specs.Prelude.{◌≡◌, ℕ, false, length, take, Option, Some, None}
use Rattle.std.specs.List.{IsDistinct, list_any}
use Rattle.fab_base.specs.declared.object.Object.{Object}
use Rattle.fab_base.specs.declared.object.Oid.{Oid}
use Rattle.fab_base.specs.FlatMap.{is_same}
use Rattle.fab_tree.specs.declared.resolved.Resolved.{Resolved}
use Rattle.fab_language.specs.Heaps.{touched}
use Rattle.fab_nested.specs.Nested.{names_of}
use Rattle.fab_stack.specs.Attempts.{is_made_in}
use Rattle.fab_stack.specs.Points.{Lacks, point_before, with_answer}
use Rattle.fab_eval.specs.declared.done.Done.{Done}
use Rattle.fab_eval.specs.declared.found.At.{At}
use Rattle.fab_eval.specs.declared.job.Outcome.TheVariants.{Need}
use Rattle.fab_eval.specs.declared.job.Job.{Job}
use Rattle.fab_eval.specs.Founds.{IsKept}
use Rattle.fab_eval.specs.Lefts.{IsLeftOf}

-- what is left of a job, if it was kept
abbrev pub Waits : Job → Option At → Type 0
Waits job None = Unit {0}
Waits job (Some at) = IsKept job at

-- The program is that of the job, which needs the object; none of its answers is there twice or made in the attempt; and what
-- is kept is what is left of it.
pub record IsPaused (program : Resolved) (done : Done) (site : ℕ) (o : Oid) (at : Option At) : Type 0 where
  pub same : program ≡ done.job.program.value
  pub needs : done.outcome ≡ Need site o
  pub distinct : IsDistinct is_same (names_of done.job.answers)
  pub made_before : list_any (λ a. is_made_in done.job.tid a.0) done.job.answers ≡ false
  pub waits : Waits done.job at

-- what was kept takes this answer, and is with it what is left of a job
pub record IsResumed (job : Job) (o : Oid) (version : ℕ) (x : Object) (at : At) : Type 0 where
  pub lacks : Lacks o at.state
  pub objects : at.objects ≡ length (touched (take at.pairs at.state.state.touches))
  pub rest : IsLeftOf job at.first.now at.stack.items (with_answer o version x (point_before at.fuel at.pairs at.state))

abbrev pub Resumes : Job → Oid → ℕ → Object → Option At → Type 0
Resumes job o version x None = Unit {0}
Resumes job o version x (Some at) = IsResumed job o version x at
