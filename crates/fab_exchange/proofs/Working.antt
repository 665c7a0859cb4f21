-- A worker whose Resume may come is at work, and the other way round; and what is its job.
use Rattle.std.proofs.Common.{◌≡◌, ℕ, List, Bool, true, false, ◌&&◌, IsTrue, Some, None, refl, sym, ap, ◌∙◌, true≢false}
use Rattle.std.proofs.lemmas.Bool.{and_from, and_parts}
use Rattle.fab_eval.specs.declared.job.Job.{Job}
use Rattle.fab_net.specs.declared.event.Inner.TheVariants as i
use Rattle.fab_rights.specs.Computed.{is_worker}
use Rattle.fab_world.specs.Machine.{Move, is_evaluating, is_running, may}
use Rattle.fab_world.specs.Serial.{IsRun}
use Rattle.fab_node.specs.Standing.{GivenModel}
use Rattle.fab_core.specs.Cores.{setting, world_by}
use Rattle.fab_core.specs.Telling.{TellsJob, is_at_work}
use Rattle.fab_core.proofs.Steady.{all_steady}
use Rattle.fab_exchange.specs.Turns.{IsCurrent}

module _ (g : GivenModel) (moves : List Move) (n : ℕ) where
  pub at_work : IsRun (setting g) moves → IsTrue (may (setting g) (world_by g moves) (i.Resume n)) → IsTrue (is_at_work g (world_by g moves) n)
  at_work run can = by (is_worker g.rights n) refl
    where
      busy : is_evaluating ((world_by g moves).node n).attempt.phase ≡ true
      busy = (and_parts (is_running (setting g) (world_by g moves) n) (is_evaluating ((world_by g moves).node n).attempt.phase) can).1

      up : is_running (setting g) (world_by g moves) n ≡ true
      up = (and_parts (is_running (setting g) (world_by g moves) n) (is_evaluating ((world_by g moves).node n).attempt.phase) can).0

      by : (b : Bool) → is_worker g.rights n ≡ b → IsTrue (is_at_work g (world_by g moves) n)
      by true is = and_from (is_worker g.rights n && is_running (setting g) (world_by g moves) n) _ (and_from (is_worker g.rights n) _ is up) busy
      by false isnt = absurd (true≢false (sym busy ∙ ap is_evaluating ((all_steady (setting g) moves run.enabled n).idle isnt)))

  pub may_resume : IsTrue (is_at_work g (world_by g moves) n) → IsTrue (may (setting g) (world_by g moves) (i.Resume n))
  may_resume work =
      let p = and_parts (is_worker g.rights n && is_running (setting g) (world_by g moves) n) (is_evaluating ((world_by g moves).node n).attempt.phase) work in
      let q = and_parts (is_worker g.rights n) (is_running (setting g) (world_by g moves) n) p.0 in
      and_from (is_running (setting g) (world_by g moves) n) (is_evaluating ((world_by g moves).node n).attempt.phase) q.1 p.1

  -- nothing is told but of a worker that isn't at work
  pub none_at_work : IsRun (setting g) moves → IsTrue (may (setting g) (world_by g moves) (i.Resume n)) → TellsJob g (world_by g moves) n None → ⊥
  none_at_work run can tells = true≢false (sym (at_work run can) ∙ tells)

  -- what is told is the job of the worker, and no other is
  pub current : (job : Job) → TellsJob g (world_by g moves) n (Some job) → IsCurrent g moves n job
  current job tells = record { at_work = tells.0; job_is = tells.1 }

  pub stale : (job : Job) → (TellsJob g (world_by g moves) n (Some job) → ⊥) → IsCurrent g moves n job → ⊥
  stale job other h = other (h.at_work, h.job_is)
