-- What is read of the parts of a core is what holds where its run has led.
use Rattle.std.proofs.Common.{◌≡◌, ℕ, ◌+◌, ◌≤◌, ◌<◌, ◌^◌, Bool, true, false, IsTrue, List, [], ◌∷◌, map, length, Option, Some, None, refl, sym, ap, ◌∙◌, subst, arith}
use Rattle.std.specs.Bool.{MatchBool}
use Rattle.std.specs.List.{range_with_len}
use Rattle.fab_base.specs.declared.object.Oid.{Oid}
use Rattle.fab_eval.specs.Answered.{answered}
use Rattle.fab_eval.specs.declared.done.Done.{Done}
use Rattle.fab_eval.specs.declared.job.Job.{Job}
use Rattle.fab_net.specs.declared.event.Inner.{Inner}
use Rattle.fab_net.specs.declared.note.Logged.{Logged}
use Rattle.fab_net.specs.declared.outcome.ReqOutcome.{ReqOutcome}
use Rattle.fab_protocol.specs.Versions.{Row, Rows}
use Rattle.fab_queues.specs.Channels.{Network, queue_of}
use Rattle.fab_world.specs.Machine.{Move, Posts, World, at_start, enabled, is_running, may, outcome}
use Rattle.fab_world.specs.Serial.{attempts}
use Rattle.fab_attempts.specs.Sessions.{requests_of}
use Rattle.fab_node.specs.Standing.{GivenModel, NodeModel}
use Rattle.fab_core.specs.Cores.{InnerHasDone, IsCore, SlotStands, move_of, setting, slot, world_by}
use Rattle.fab_core.specs.Planning.{CanPlan}
use Rattle.fab_nodes.specs.Seen.{held_in, TellsJobAt, may_in, may_post_in, outcome_in, outcomes_in}
use Rattle.fab_nodes.specs.Transit.{is_up_in}
use Rattle.fab_core.specs.Telling.{node_count, HasAnswer, HasJobAt, TellsAnswer, TellsJob, all_held, all_outcomes, held_here}
use Rattle.fab_core.proofs.Filled.{up_is}
use Rattle.fab_core.proofs.Lasting.{all_held_are, all_outcomes_are, held_is, outcome_is}
use Rattle.fab_core.proofs.May.{can_plan}
use Rattle.fab_core.proofs.Reached.{IsReached, reached_runs, reached_start}
use Rattle.fab_core.proofs.Seeing.{may_is, may_post_is}
use Rattle.fab_core.proofs.Slots.{is_setting}
use Rattle.fab_core.proofs.Working.{answer_so, back_at, decided, has_at, tells_at}

module _ (g : GivenModel) (nodes : List (Option NodeModel)) (queues : Network) (places : List ℕ) (log : List Logged) (c : IsCore g nodes queues places log) where
  abbrev pub moves : List Move
  moves = map move_of log

  abbrev pub w : World
  w = world_by g moves

  pub core_reached : IsReached (setting g) w
  core_reached = reached_runs (setting g) moves (at_start (setting g)) c.run (reached_start (setting g))

  pub core_may : (e : Inner) → may_in g nodes queues places e ≡ may (setting g) w e
  core_may e = may_is g c.given w core_reached nodes queues places c.stands e

  pub core_may_post : (h : ℕ) → may_post_in g nodes places h ≡ enabled (setting g) w (Posts h)
  core_may_post h = may_post_is g c.given w core_reached nodes queues places c.stands h

  pub core_up : (n : ℕ) → is_up_in (slot nodes n) ≡ is_running (setting g) w n
  core_up n = up_is g w nodes c.stands.standing n

  pub core_can_plan : attempts moves < 4000000000 → (e : Inner) (done : Option Done) → IsTrue (may (setting g) w e) → InnerHasDone g w e done
      → CanPlan e done nodes queues
  core_can_plan few e done h d = can_plan g moves nodes queues c.run few c.stands.standing c.stands.queue e done h d

  pub core_outcome : (n request : ℕ) → outcome_in (slot nodes n) request ≡ outcome (setting g) w n request
  core_outcome n request = outcome_is g c.given w core_reached nodes c.stands.standing n request

  pub core_outcomes : map (λ n. outcomes_in (slot nodes n) (length (requests_of g.program n))) (range_with_len 0 (node_count g.program)) ≡ all_outcomes g w
  core_outcomes = all_outcomes_are g c.given w core_reached nodes c.stands.standing

  pub core_held : (n : ℕ) → held_in nodes n ≡ held_here g w n
  core_held n = held_is g c.given w core_reached nodes c.stands.standing n

  pub core_held_all : map (held_in nodes) (range_with_len 0 (node_count g.program)) ≡ all_held g w
  core_held_all = all_held_are g c.given w core_reached nodes c.stands.standing

  pub core_tells : (n : ℕ) (told : Option Job) → TellsJobAt (slot nodes n) told → TellsJob g w n told
  core_tells n told h = tells_at g c.given w core_reached nodes c.stands.standing n told h

  -- who has a job tells it, and the other way round
  pub core_has : (n : ℕ) (job : Job) → job.program.value ≡ g.program → HasJobAt (slot nodes n) job → TellsJob g w n (Some job)
  core_has n job program h = has_at g c.given w core_reached nodes c.stands.standing n job program h

  pub core_back : (n : ℕ) (job : Job) → TellsJob g w n (Some job) → HasJobAt (slot nodes n) job
  core_back n job h = back_at g c.given w core_reached nodes c.stands.standing n job h

  pub core_decides : (n : ℕ) (job : Job) (b : Bool) → job.program.value ≡ g.program → MatchBool b (HasJobAt (slot nodes n) job) (HasJobAt (slot nodes n) job → ⊥)
      → MatchBool b (TellsJob g w n (Some job)) (TellsJob g w n (Some job) → ⊥)
  core_decides n job b program h = decided b (core_has n job program) (core_back n job) h

  pub core_answers : (n : ℕ) (job : Job) (told : Option Row) → job.program.value ≡ g.program → HasAnswer (HasJobAt (slot nodes n)) job told → TellsAnswer g w n job told
  core_answers n job told program h =
      answer_so (HasJobAt (slot nodes n)) (λ (j : Job). TellsJob g w n (Some j)) job told (λ (a : Row). core_has n (answered a.0 a.1 a.2 job) program)
      (λ (a : Row). core_back n (answered a.0 a.1 a.2 job)) h

  pub core_requests : (n : ℕ) → length (requests_of g.program n) < 2 ^ 32
  core_requests n = (is_setting g c.given).requests n
