-- What the calling thread has kept, and what it finds left.
use Rattle.std.specs.Prelude.{◌≡◌, [], ◌∷◌, None, Some}
use Rattle.std.proofs.Common.{sym, ◌∙◌}
use Rattle.std.proofs.lemmas.List.Elements.{All-cons, All-head, All-nil}
use Rattle.fab_eval.specs.declared.done.Done.{Done}
use Rattle.fab_eval.specs.declared.job.Job.{Job}
use Rattle.fab_tree.specs.declared.resolved.Resolved.{Resolved}
use Rattle.fab_threads.specs.Counts.{IsReady}
use Rattle.fab_threads.specs.Rounds.{AreKept, IsLeft}
use Rattle.fab_threads.specs.declared.alone.Left.TheVariants as left
use Rattle.fab_threads.proofs.Keeping.{IsKept}

-- ---- kept

-- an empty place is of every program
empty_place : (p : Resolved) → AreKept p (None ∷ [])
empty_place p = All-cons (IsKept p) None [] tt (All-nil (IsKept p))

-- what came of a job of another program isn't kept
not_kept : (p q : Resolved) (done : Done) → done.job.program.value ≡ q → (q ≡ p → ⊥) → AreKept p (Some done ∷ []) → ⊥
not_kept p q done is other h = other (sym is ∙ All-head (IsKept p) (Some done) [] h)

-- ---- left

-- a job of another program isn't left
not_left_over : (p q : Resolved) (job : Job) (over : Type 0) → job.program.value ≡ q → (q ≡ p → ⊥) → IsLeft p over (left.Jobs (job ∷ [])) → ⊥
not_left_over p q job over is other h = other (sym is ∙ (All-head (IsReady p) job [] h).program_is)

-- who finds nothing left may rely on it that all is over
nothing_left : (p : Resolved) (over : Type 0) → IsLeft p over left.Nothing → over
nothing_left p over h = h

-- who finds no job may not: where it isn't over, too, there is that answer
no_job_left : (p : Resolved) → IsLeft p ⊥ (left.Jobs [])
no_job_left p = All-nil (IsReady p)
