-- An event that may come finds a node in the role that it needs.
use Rattle.std.proofs.Common.{◌≡◌, ℕ, ◌<◌, true, IsTrue, length, Some, refl, sym, ap, ◌∙◌, subst}
use Rattle.std.specs.Prelude.{slice_get}
use Rattle.std.proofs.lemmas.Bool.{true≢false}
use Rattle.fab_eval.specs.declared.done.Done.{Done}
use Rattle.fab_rights.specs.Computed.{is_worker}
use Rattle.fab_attempts.specs.Sessions.{requests_of}
use Rattle.fab_world.specs.Machine.{Node, lacks}
use Rattle.fab_world.specs.Workers.{Attempt, Evaluating, Idle, Phase, kept_of, tid_of}
use Rattle.fab_node.specs.declared.role.Role.{Role}
use Rattle.fab_node.specs.declared.role.Role.TheVariants as roles
use Rattle.fab_node.specs.Standing.{GivenModel, RoleStands}
use Rattle.fab_node.specs.Deeds.{MayBegin, MayGiveUp, MayResume}

-- the job is of the request that the machine's node is at
pub record IsJobAt (g : GivenModel) (n : ℕ) (x : Node) (done : Done) : Type 0 where
  pub program : done.job.program.value ≡ g.program
  pub request : slice_get (requests_of g.program n) (length (kept_of x.entries).outcomes) ≡ Some done.job.request
  pub tid : done.job.tid ≡ tid_of n (kept_of x.entries) x.attempt
  pub answers : done.job.answers ≡ x.attempt.answers

module _ (g : GivenModel) (n : ℕ) (x : Node) (up : x.up ≡ true) where
  pub may_begin : (role : Role) → RoleStands g n x role → IsTrue (is_worker g.rights n) → x.attempt.phase ≡ Idle
      → length (kept_of x.entries).outcomes < length (requests_of g.program n) → x.attempt.number < 4294967295 → MayBegin role
  may_begin (roles.Store store) s worker idle left number = absurd (true≢false (sym worker ∙ s.no_worker))
  may_begin (roles.Worker worker) s kind idle left number = record {
    worker = worker;
    is = refl;
    can = record {
      idle = ap (λ (a : Attempt). a.phase) (s.attempt up) ∙ idle;
      left = subst (λ k. length worker.kept.outcomes < k) (sym (λ j. length (requests_of (s.program j) (s.node j))))
          (subst (λ k. k < length (requests_of g.program n)) (sym (λ j. length (s.lasts j).outcomes)) left);
      number = subst (λ (a : Attempt). a.number < 4294967295) (sym (s.attempt up)) number;
    };
  }

  -- a store is at no attempt
  none_evaluates : (phase : Phase) → phase ≡ Idle → phase ≡ Evaluating → ⊥
  none_evaluates phase idle other = cc

  none_waits : (phase : Phase) (s : ℕ) → phase ≡ Idle → IsTrue (lacks s phase) → ⊥
  none_waits phase s idle waits = true≢false (sym waits ∙ ap (lacks s) idle)

  pub may_resume : (role : Role) (done : Done) → RoleStands g n x role → x.attempt.phase ≡ Evaluating → IsJobAt g n x done → MayResume done role
  may_resume (roles.Store store) done s evaluating job = absurd (none_evaluates x.attempt.phase s.idle evaluating)
  may_resume (roles.Worker worker) done s evaluating job = record {
    worker = worker;
    is = refl;
    can = record {
      evaluating = ap (λ (a : Attempt). a.phase) (s.attempt up) ∙ evaluating;
      job = record {
        program = job.program ∙ sym s.program;
        request = (λ j. slice_get (requests_of (s.program j) (s.node j)) (length (s.lasts j).outcomes)) ∙ job.request;
        tid = job.tid ∙ sym (λ j. tid_of (s.node j) (s.lasts j) (s.attempt up j));
        answers = job.answers ∙ sym (ap (λ (a : Attempt). a.answers) (s.attempt up));
      };
    };
  }

  pub may_give_up : (role : Role) (store : ℕ) → RoleStands g n x role → IsTrue (lacks store x.attempt.phase) → MayGiveUp store role
  may_give_up (roles.Store here) store s waits = absurd (none_waits x.attempt.phase store s.idle waits)
  may_give_up (roles.Worker worker) store s waits = record {
    worker = worker;
    is = refl;
    waits = ap (λ (a : Attempt). lacks store a.phase) (s.attempt up) ∙ waits;
  }
