-- What the machine says of an event that may come is what its node in code asks to plan it.
use Rattle.std.specs.Prelude.{◌≡◌, ◌⊎◌, ◌<◌, ◌≤◌, ℕ, Bool, true, false, not, ◌&&◌, nat_lt, IsTrue, List, [], ◌∷◌, length, Option, Some, None, slice_get}
use Rattle.std.proofs.Common.{refl, sym, ap, ◌∙◌, subst, arith, true≢false}
use Rattle.std.proofs.lemmas.Bool.{and_parts}
use Rattle.std.proofs.lemmas.Bool.Decides.{nat_tests}
use Rattle.fab_base.specs.declared.entry.Entry.{Entry}
use Rattle.fab_eval.specs.declared.done.Done.{Done}
use Rattle.fab_net.specs.declared.event.Inner.{Inner}
use Rattle.fab_net.specs.declared.event.Inner.TheVariants as i
use Rattle.fab_rights.specs.Computed.{is_node, is_worker}
use Rattle.fab_attempts.specs.Sessions.{requests_of}
use Rattle.fab_world.specs.Machine.{Setting, World, Node, node_of, may, is_running, is_idle, is_evaluating, lacks, kept}
use Rattle.fab_world.specs.Workers.{Attempt, Phase, Kept, tid_of}
use Rattle.fab_world.specs.Workers as phases
use Rattle.fab_worker.specs.Models as models
use Rattle.fab_worker.specs.Records.{boots_in}
use Rattle.fab_node.specs.declared.role.Role.{Role}
use Rattle.fab_node.specs.declared.role.Role.TheVariants as roles
use Rattle.fab_node.specs.Standing.{GivenModel, NodeModel, RoleStands, Stands, WorkerStands}
use Rattle.fab_node.specs.Deeds.{CanBegin, CanResume, MayBegin, MayGiveUp, MayResume}
use Rattle.fab_nodes.specs.Acts.{MayPlan}
use Rattle.fab_core.specs.Cores.{HasDone, InnerHasDone, IsJobAt, is_honest, setting}
use Rattle.fab_core.proofs.Steady.{AreSteady}

-- ---- the node of an event is honest

pub honest_runs : (g : GivenModel) (w : World) (n : ℕ) → is_running (setting g) w n ≡ true → is_honest g n ≡ true
honest_runs g w n h = (and_parts _ _ h).0

pub honest_does : (g : GivenModel) (w : World) (e : Inner) → IsTrue (may (setting g) w e) → is_honest g (node_of e) ≡ true
honest_does g w (i.Begin n) can = honest_runs g w n (and_parts _ _ (and_parts _ _ (and_parts _ _ can).0).0).0
honest_does g w (i.Resume n) can = honest_runs g w n (and_parts _ _ can).0
honest_does g w (i.Deliver a b) can = honest_runs g w b (and_parts _ _ (and_parts _ _ can).0).0
honest_does g w (i.Idle n s) can = honest_runs g w n (and_parts _ _ (and_parts _ _ (and_parts _ _ can).0).0).0
honest_does g w (i.Recover n) can = (and_parts _ _ (and_parts _ _ can).0).0

-- ---- workers

record IsWorkerAt (g : GivenModel) (n : ℕ) (x : Node) (role : Role) : Type 0 where
  worker : models.WorkerModel
  is : role ≡ roles.Worker worker
  stands : WorkerStands g n x worker

worker_at : (g : GivenModel) (n : ℕ) (x : Node) (role : Role) → RoleStands g n x role → is_worker g.rights n ≡ true → IsWorkerAt g n x role
worker_at g n x (roles.Store store) s kind = absurd (true≢false (sym kind ∙ s.no_worker))
worker_at g n x (roles.Worker worker) s kind = record { worker = worker; is = refl; stands = s }

idle_by : (phase : Phase) → is_idle phase ≡ true → phase ≡ phases.Idle
idle_by phases.Idle h = refl
idle_by phases.Evaluating h = absurd (true≢false (sym h))
idle_by (phases.Fetching o) h = absurd (true≢false (sym h))
idle_by (phases.Preparing ls) h = absurd (true≢false (sym h))

evaluating_by : (phase : Phase) → is_evaluating phase ≡ true → phase ≡ phases.Evaluating
evaluating_by phases.Idle h = absurd (true≢false (sym h))
evaluating_by phases.Evaluating h = refl
evaluating_by (phases.Fetching o) h = absurd (true≢false (sym h))
evaluating_by (phases.Preparing ls) h = absurd (true≢false (sym h))

-- who isn't idle is a worker
busy_worker : (g : GivenModel) (w : World) (n : ℕ) (test : Phase → Bool) → AreSteady (setting g) w → test phases.Idle ≡ false → test (w.node n).attempt.phase ≡ true
    → is_worker g.rights n ≡ true
busy_worker g w n test steady calm busy = by_kind (is_worker g.rights n) refl
  where
    by_kind : (b : Bool) → is_worker g.rights n ≡ b → b ≡ true
    by_kind true h = refl
    by_kind false h = absurd (true≢false (sym busy ∙ ap test ((steady n).idle h) ∙ calm))

module _ (g : GivenModel) (w : World) (n : ℕ) (node : NodeModel) (number : node.number ≡ n) (s : Stands g (w.node n) node) where
  module _ (kind : is_worker g.rights n ≡ true) (up : (w.node n).up ≡ true) where
    worker_is : IsWorkerAt g n (w.node n) node.role
    worker_is = worker_at g n (w.node n) node.role (subst (λ k. RoleStands g k (w.node n) node.role) number s.role) kind

    same_attempt : worker_is.worker.attempt ≡ (w.node n).attempt
    same_attempt = worker_is.stands.attempt up

    begin_allowed : is_idle (w.node n).attempt.phase ≡ true → nat_lt (length (kept (setting g) w n).outcomes) ((setting g).requests n) ≡ true
        → (w.node n).attempt.number < 4294967295 → MayBegin node.role
    begin_allowed idle left few = record {
      worker = worker_is.worker;
      is = worker_is.is;
      can = record {
        idle = ap (λ (a : Attempt). a.phase) same_attempt ∙ idle_by (w.node n).attempt.phase idle;
        left =
            let lt : length (kept (setting g) w n).outcomes < (setting g).requests n = grind (arith, nat_tests) in
            subst (λ (k : Kept). length k.outcomes < length (requests_of worker_is.worker.program worker_is.worker.node)) (sym worker_is.stands.lasts)
            (subst (λ r. length (kept (setting g) w n).outcomes < length (requests_of r worker_is.worker.node)) (sym worker_is.stands.program)
            (subst (λ m. length (kept (setting g) w n).outcomes < length (requests_of g.program m)) (sym worker_is.stands.node) lt));
        number = subst (λ (a : Attempt). a.number < 4294967295) (sym same_attempt) few;
      };
    }

    resume_allowed : (done : Done) → IsJobAt g w n done.job → MayResume done node.role
    resume_allowed done job = record {
      worker = worker_is.worker;
      is = worker_is.is;
      can = record {
        evaluating = ap (λ (a : Attempt). a.phase) same_attempt ∙ job.evaluating;
        job = record {
          program = job.program ∙ sym worker_is.stands.program;
          request =
              (λ j. slice_get (requests_of (worker_is.stands.program j) (worker_is.stands.node j)) (length (worker_is.stands.lasts j).outcomes)) ∙ job.request;
          tid = job.tid ∙ sym (λ j. tid_of (worker_is.stands.node j) (worker_is.stands.lasts j) (same_attempt j));
          answers = job.answers ∙ sym (ap (λ (a : Attempt). a.answers) same_attempt);
        };
      };
    }

    silence_allowed : (store : ℕ) → lacks store (w.node n).attempt.phase ≡ true → MayGiveUp store node.role
    silence_allowed store waits = record {
      worker = worker_is.worker;
      is = worker_is.is;
      waits = subst (λ (a : Attempt). IsTrue (lacks store a.phase)) (sym same_attempt) waits;
    }

has_done : (g : GivenModel) (w : World) (n : ℕ) (done : Option Done) → HasDone g w n done → (d : Done) × (done ≡ Some d) × IsJobAt g w n d.job
has_done g w n None h = absurd h
has_done g w n (Some d) h = (d, refl, h)

module _ (g : GivenModel) (w : World) (steady : AreSteady (setting g) w) (numbers : (n : ℕ) → (w.node n).attempt.number < 4294967295)
    (boots : (n : ℕ) → boots_in (w.node n).entries < 4000000000) where
  pub allowed : (e : Inner) (over : Option Done) (node : NodeModel) → node.number ≡ node_of e → Stands g (w.node (node_of e)) node
      → IsTrue (may (setting g) w e) → InnerHasDone g w e over → MayPlan g e over node
  allowed (i.Begin n) over node number s can has =
      let p = and_parts _ _ can in
      let q = and_parts _ _ p.0 in
      let r = and_parts _ _ q.0 in
      begin_allowed g w n node number s r.1 (and_parts _ _ r.0).1 q.1 p.1 (numbers n)
  allowed (i.Resume n) over node number s can has =
      let p = and_parts _ _ can in
      let d = has_done g w n over (has p.0 (evaluating_by (w.node n).attempt.phase p.1)) in
      subst (λ o. MayPlan g (i.Resume n) o node) (sym d.1)
      (resume_allowed g w n node number s (busy_worker g w n is_evaluating steady refl p.1) (and_parts _ _ p.0).1 d.0 d.2)
  allowed (i.Deliver a b) over node number s can has = tt
  allowed (i.Idle n store) over node number s can has =
      let p = and_parts _ _ (and_parts _ _ can).0 in
      silence_allowed g w n node number s (busy_worker g w n (lacks store) steady refl p.1) (and_parts _ _ (and_parts _ _ p.0).0).1 store p.1
  allowed (i.Recover n) over node number s can has =
      let p = and_parts _ _ can in
      let q = and_parts _ _ p.0 in
      (w.node n, s, contrary (w.node n).up q.1, contrary (w.node n).failed p.1, boots n)
    where
      contrary : (b : Bool) → not b ≡ true → b ≡ false
      contrary true h = sym h
      contrary false h = refl
