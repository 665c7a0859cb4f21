-- A worker that evaluates is told its job, and an event takes what that came to.
use Rattle.std.specs.Prelude.{◌≡◌, ℕ, Bool, true, false, IsTrue, IsFalse, IfOk, IfSome, List, Option, Some, None, Result, Ok, Err}
use Rattle.std.proofs.Common.{refl, sym, ap, ◌∙◌, true≢false, subst}
use Rattle.std.proofs.lemmas.Bool.{and_from}
use Rattle.fab_base.specs.declared.object.Object.{Object}
use Rattle.fab_base.specs.declared.object.Oid.{Oid}
use Rattle.fab_eval.specs.Answered.{answered}
use Rattle.fab_eval.specs.Attempts.{is_made_in}
use Rattle.fab_eval.specs.declared.done.Done.{Done}
use Rattle.fab_eval.specs.declared.job.Job.{Job}
use Rattle.fab_net.specs.declared.event.Event.TheVariants as e
use Rattle.fab_net.specs.declared.event.Inner.TheVariants as i
use Rattle.fab_pauses.specs.Evaluations.{EvaluatorsModel, last_of}
use Rattle.fab_pauses.specs.Jobs.{GoesOnOrStays}
use Rattle.fab_rights.specs.Computed.{is_worker}
use Rattle.fab_world.specs.Machine.{Move, is_evaluating, is_running}
use Rattle.fab_world.specs.Serial.{IsRun}
use Rattle.fab_world.specs.Workers as workers
use Rattle.fab_node.specs.Standing.{GivenModel}
use Rattle.fab_core.specs.Cores.{HasDone, setting, world_by}
use Rattle.fab_core.specs.Telling.{TellsJob, is_at_work}
use Rattle.fab_core.proofs.Steady.{all_steady}
use Rattle.fab_replay.specs.Running.{ComesWith, IsLastDone, IsLastTold}

-- behind a run none evaluates but a worker at work
pub none_evaluates : (g : GivenModel) (moves : List Move) (n : ℕ) (told : Option Job) → IsRun (setting g) moves → TellsJob g (world_by g moves) n told → told ≡ None
    → IsTrue (is_running (setting g) (world_by g moves) n) → ((world_by g moves).node n).attempt.phase ≡ workers.Evaluating → ⊥
none_evaluates g moves n told run tells none up busy = by (is_worker g.rights n) refl
  where
    resting : IsFalse (is_at_work g (world_by g moves) n)
    resting = subst (TellsJob g (world_by g moves) n) none tells

    by : (b : Bool) → is_worker g.rights n ≡ b → ⊥
    by true h = true≢false (sym (and_from _ _ (and_from _ _ h up) (ap is_evaluating busy)) ∙ resting)
    by false h = true≢false (sym (ap is_evaluating busy) ∙ ap is_evaluating ((all_steady (setting g) moves run.enabled n).idle h))

-- a Resume takes what the job came to, whole or cut
module _ {E : Type 0} (g : GivenModel) (moves : List Move) (n : ℕ) (all : EvaluatorsModel) (result : Result (Option ℕ) E) where
  abbrev HasCome : Type 0
  HasCome = IfOk result (λ at. (done : Option Done) → IsLastDone all at done → IsTrue (is_running (setting g) (world_by g moves) n)
      → ((world_by g moves).node n).attempt.phase ≡ workers.Evaluating → HasDone g (world_by g moves) n done)

  pub resumes_with : HasCome → IfOk result (λ at. (done : Option Done) → IsLastDone all at done → ComesWith g moves (e.Resume n) done)
  resumes_with h = by result h
    where
      by : (r : Result (Option ℕ) E) → IfOk r (λ at. (done : Option Done) → IsLastDone all at done → IsTrue (is_running (setting g) (world_by g moves) n)
          → ((world_by g moves).node n).attempt.phase ≡ workers.Evaluating → HasDone g (world_by g moves) n done)
          → IfOk r (λ at. (done : Option Done) → IsLastDone all at done → ComesWith g moves (e.Resume n) done)
      by (Ok at) h = λ done is. record { done = h done is }
      by (Err x) h = tt

  pub crashes_with : (keep : ℕ) → HasCome → IfOk result (λ at. (done : Option Done) → IsLastDone all at done → ComesWith g moves (e.CrashIn keep (i.Resume n)) done)
  crashes_with keep h = by result h
    where
      by : (r : Result (Option ℕ) E) → IfOk r (λ at. (done : Option Done) → IsLastDone all at done → IsTrue (is_running (setting g) (world_by g moves) n)
          → ((world_by g moves).node n).attempt.phase ≡ workers.Evaluating → HasDone g (world_by g moves) n done)
          → IfOk r (λ at. (done : Option Done) → IsLastDone all at done → ComesWith g moves (e.CrashIn keep (i.Resume n)) done)
      by (Ok at) h = λ done is. record { done = h done is }
      by (Err x) h = tt

-- ---- a job that went on with an answer

-- an answer that is had wasn't made in the attempt of the last job
pub last_unmade : (all : EvaluatorsModel) (n : ℕ) (job : Job) (o : Oid) → Some job ≡ last_of all n → is_made_in job.tid o ≡ false
    → IfSome (last_of all n) (λ (j : Job). is_made_in j.tid o ≡ false)
last_unmade all n job o is h = subst (λ (l : Option Job). IfSome l (λ (j : Job). is_made_in j.tid o ≡ false)) is h

-- where it went on with it, the last job is what the worker has to evaluate
pub went_told : {E : Type 0} (g : GivenModel) (moves : List Move) (n : ℕ) (all new : EvaluatorsModel) (job : Job) (o : Oid) (version : ℕ) (x : Object) (result : Result Bool E)
    → Some job ≡ last_of all n → TellsJob g (world_by g moves) n (Some (answered o version x job))
    → IfOk result (λ went. GoesOnOrStays went (last_of all n) o version x (last_of new n)) → IfOk result (λ went. went ≡ true → IsLastTold g moves n (last_of new n))
went_told g moves n all new job o version x (Ok true) is tells h = λ went.
    subst (IsLastTold g moves n) (sym (subst (λ (l : Option Job). GoesOnOrStays true l o version x (last_of new n)) (sym is) h)) tells
went_told g moves n all new job o version x (Ok false) is tells h = λ went. absurd (true≢false (sym went))
went_told g moves n all new job o version x (Err refused) is tells h = tt

-- and so is what that came to
pub told_done : (g : GivenModel) (moves : List Move) (n : ℕ) (all : EvaluatorsModel) (done : Option Done) → IsLastTold g moves n (last_of all n)
    → IsLastDone all (Some n) done → HasDone g (world_by g moves) n done
told_done g moves n all None h is = subst (IsLastTold g moves n) (sym is.0) h
told_done g moves n all (Some d) h is =
    let told : TellsJob g (world_by g moves) n (Some d.job) = subst (IsLastTold g moves n) (sym is.0) h in told.1
