-- Which worker is at work, and with which job.
use Rattle.std.proofs.Common.{◌≡◌, ℕ, Bool, true, false, ◌&&◌, IsTrue, List, length, Option, Some, None, refl, sym, ap, ◌∙◌, subst}
use Rattle.std.specs.Prelude.{slice_get}
use Rattle.std.specs.Bool.{IsFalse}
use Rattle.std.specs.Bool.{MatchBool}
use Rattle.std.proofs.lemmas.Bool.{and_right, true≢false}
use Rattle.fab_eval.specs.Answered.{answered}
use Rattle.fab_eval.specs.declared.job.Job.{Job}
use Rattle.fab_protocol.specs.Versions.{Row}
use Rattle.fab_rights.specs.Computed.{is_worker}
use Rattle.fab_attempts.specs.Sessions.{requests_of}
use Rattle.fab_tree.specs.declared.resolved.Resolved.{Resolved}
use Rattle.fab_world.specs.Machine.{World, is_evaluating, is_running, kept}
use Rattle.fab_world.specs.Workers.{Attempt, Kept, Phase, Evaluating, tid_of}
use Rattle.fab_node.specs.declared.role.Role.{Role}
use Rattle.fab_node.specs.declared.role.Role.TheVariants as roles
use Rattle.fab_node.specs.Standing.{GivenModel, IsGiven, NodeModel, RoleStands}
use Rattle.fab_core.specs.Cores.{IsJobAt, NodesStand, SlotStands, setting, slot}
use Rattle.fab_nodes.specs.Seen.{TellsJobAt, TellsJobOf, TellsWhere}
use Rattle.fab_core.specs.Telling.{HasAnswer, HasJobAt, HasJobOf, HasJobWhere, TellsJob, is_at_work}
use Rattle.fab_core.proofs.Reached.{IsReached}
use Rattle.fab_core.proofs.Slots.{role_here, running_in, running_out}

module _ (g : GivenModel) (given : IsGiven g) (w : World) (reached : IsReached (setting g) w) (n : ℕ) where
  resting : is_running (setting g) w n ≡ false → IsFalse (is_at_work g w n)
  resting h = ap (λ b. is_worker g.rights n && b && is_evaluating (w.node n).attempt.phase) h ∙ off (is_worker g.rights n)
    where
      off : (b : Bool) → b && false && is_evaluating (w.node n).attempt.phase ≡ false
      off true = refl
      off false = refl

  -- nobody is there, or who is there is down
  pub tells_absent : SlotStands g w n None → TellsJob g w n None
  tells_absent s = resting (running_out g w n s)

  pub tells_down : (x : NodeModel) → SlotStands g w n (Some x) → x.up ≡ false → TellsJob g w n None
  tells_down x s down = resting (running_in g w n x s ∙ down)

  working : IsTrue (is_worker g.rights n) → is_running (setting g) w n ≡ true → is_evaluating (w.node n).attempt.phase ≡ true → IsTrue (is_at_work g w n)
  working h r e =
      ap (λ b. b && is_running (setting g) w n && is_evaluating (w.node n).attempt.phase) h ∙ ap (λ b. b && is_evaluating (w.node n).attempt.phase) r ∙ e

  -- one that is up
  tells_role : (role : Role) (told : Option Job) → RoleStands g n (w.node n) role → (w.node n).up ≡ true → is_running (setting g) w n ≡ true → TellsJobOf role told
      → TellsJob g w n told
  tells_role (roles.Store st) None s up running h =
      ap (λ b. b && is_running (setting g) w n && is_evaluating (w.node n).attempt.phase) s.no_worker
  tells_role (roles.Store st) (Some job) s up running h = absurd h
  tells_role (roles.Worker wk) None s up running h =
      and_right (is_worker g.rights n && is_running (setting g) w n) (is_evaluating (w.node n).attempt.phase)
      (ap (λ (a : Attempt). is_evaluating a.phase) (sym (s.attempt up)) ∙ h)
  tells_role (roles.Worker wk) (Some job) s up running h =
      let phase : (w.node n).attempt.phase ≡ Evaluating = ap (λ (a : Attempt). a.phase) (sym (s.attempt up)) ∙ h.evaluating in (
        working s.kind running (ap is_evaluating phase),
        record {
          evaluating = phase;
          program = h.is.program ∙ s.program;
          request = sym (ap (λ (y : Resolved). slice_get (requests_of y wk.node) (length wk.kept.outcomes)) s.program
              ∙ ap (λ m. slice_get (requests_of g.program m) (length wk.kept.outcomes)) s.node
              ∙ ap (λ (b : Kept). slice_get (requests_of g.program n) (length b.outcomes)) s.lasts)
              ∙ h.is.request;
          tid = h.is.tid ∙ ap (λ m. tid_of m wk.kept wk.attempt) s.node ∙ ap (λ (b : Kept). tid_of n b wk.attempt) s.lasts
              ∙ ap (tid_of n (kept (setting g) w n)) (s.attempt up);
          answers = h.is.answers ∙ ap (λ (b : Attempt). b.answers) (s.attempt up);
        },
      )

  pub tells_up : (x : NodeModel) (told : Option Job) → SlotStands g w n (Some x) → x.up ≡ true → TellsJobOf x.role told → TellsJob g w n told
  tells_up x told s up h = tells_role x.role told (role_here g w n x s) (sym s.2.up ∙ up) (running_in g w n x s ∙ up) h

  tells_where : (x : NodeModel) (up : Bool) (told : Option Job) → SlotStands g w n (Some x) → x.up ≡ up → TellsWhere up x.role told → TellsJob g w n told
  tells_where x true told s e h = tells_up x told s e h
  tells_where x false None s e h = tells_down x s e
  tells_where x false (Some job) s e h = absurd h

  tells_by : (o : Option NodeModel) (told : Option Job) → SlotStands g w n o → TellsJobAt o told → TellsJob g w n told
  tells_by None None s h = tells_absent s
  tells_by None (Some job) s h = absurd h
  tells_by (Some x) told s h = tells_where x x.up told s refl h

  -- ---- who has a job tells it, and the other way round

  module _ (job : Job) where
    has_role : (role : Role) → RoleStands g n (w.node n) role → (w.node n).up ≡ true → is_running (setting g) w n ≡ true → job.program.value ≡ g.program
        → HasJobOf role job → TellsJob g w n (Some job)
    has_role (roles.Store st) s up running program h = absurd h
    has_role (roles.Worker wk) s up running program h =
        tells_role (roles.Worker wk) (Some job) s up running
        (record { evaluating = h.evaluating; is = record { program = program ∙ sym s.program; request = h.is.request; tid = h.is.tid; answers = h.is.answers } })

    back_role : (role : Role) → RoleStands g n (w.node n) role → (w.node n).up ≡ true → TellsJob g w n (Some job) → HasJobOf role job
    back_role (roles.Store st) s up h =
        true≢false (sym h.0 ∙ ap (λ b. b && is_running (setting g) w n && is_evaluating (w.node n).attempt.phase) s.no_worker)
    back_role (roles.Worker wk) s up h = record {
      evaluating = ap (λ (a : Attempt). a.phase) (s.attempt up) ∙ h.1.evaluating;
      is = record {
        request = ap (λ (y : Resolved). slice_get (requests_of y wk.node) (length wk.kept.outcomes)) s.program
            ∙ ap (λ m. slice_get (requests_of g.program m) (length wk.kept.outcomes)) s.node
            ∙ ap (λ (b : Kept). slice_get (requests_of g.program n) (length b.outcomes)) s.lasts ∙ h.1.request;
        tid = h.1.tid ∙ sym (ap (λ m. tid_of m wk.kept wk.attempt) s.node ∙ ap (λ (b : Kept). tid_of n b wk.attempt) s.lasts
            ∙ ap (tid_of n (kept (setting g) w n)) (s.attempt up));
        answers = h.1.answers ∙ sym (ap (λ (b : Attempt). b.answers) (s.attempt up));
      };
    }

    has_where : (x : NodeModel) (up : Bool) → SlotStands g w n (Some x) → x.up ≡ up → job.program.value ≡ g.program → HasJobWhere up x.role job
        → TellsJob g w n (Some job)
    has_where x true s e program h = has_role x.role (role_here g w n x s) (sym s.2.up ∙ e) (running_in g w n x s ∙ e) program h
    has_where x false s e program h = absurd h

    back_where : (x : NodeModel) (up : Bool) → SlotStands g w n (Some x) → x.up ≡ up → TellsJob g w n (Some job) → HasJobWhere up x.role job
    back_where x true s e h = back_role x.role (role_here g w n x s) (sym s.2.up ∙ e) h
    back_where x false s e h = true≢false (sym h.0 ∙ tells_down x s e)

    has_by : (o : Option NodeModel) → SlotStands g w n o → job.program.value ≡ g.program → HasJobAt o job → TellsJob g w n (Some job)
    has_by None s program h = absurd h
    has_by (Some x) s program h = has_where x x.up s refl program h

    back_by : (o : Option NodeModel) → SlotStands g w n o → TellsJob g w n (Some job) → HasJobAt o job
    back_by None s h = true≢false (sym h.0 ∙ tells_absent s)
    back_by (Some x) s h = back_where x x.up s refl h

-- what is told of a slot is told of the node of the machine
pub tells_at : (g : GivenModel) (given : IsGiven g) (w : World) (reached : IsReached (setting g) w) (nodes : List (Option NodeModel)) → NodesStand g w nodes
    → (n : ℕ) (told : Option Job) → TellsJobAt (slot nodes n) told → TellsJob g w n told
tells_at g given w reached nodes stand n told h = tells_by g given w reached n (slot nodes n) told (stand n) h

-- what a slot has is what is told of the node of the machine
module _ (g : GivenModel) (given : IsGiven g) (w : World) (reached : IsReached (setting g) w) (nodes : List (Option NodeModel)) (stand : NodesStand g w nodes) (n : ℕ) (job : Job) where
  pub has_at : job.program.value ≡ g.program → HasJobAt (slot nodes n) job → TellsJob g w n (Some job)
  has_at program h = has_by g given w reached n job (slot nodes n) (stand n) program h

  pub back_at : TellsJob g w n (Some job) → HasJobAt (slot nodes n) job
  back_at h = back_by g given w reached n job (slot nodes n) (stand n) h

-- where two facts come to the same, what is answered of one is answered of the other
pub decided : {P Q : Type 0} (b : Bool) → (P → Q) → (Q → P) → MatchBool b P (P → ⊥) → MatchBool b Q (Q → ⊥)
decided true to back h = to h
decided false to back h = λ q. h (back q)

pub answer_so : (P Q : Job → Type 0) (job : Job) (told : Option Row) → ((a : Row) → P (answered a.0 a.1 a.2 job) → Q (answered a.0 a.1 a.2 job))
    → ((a : Row) → Q (answered a.0 a.1 a.2 job) → P (answered a.0 a.1 a.2 job)) → HasAnswer P job told → HasAnswer Q job told
answer_so P Q job None to back h = λ a q. h a (back a q)
answer_so P Q job (Some a) to back h = (to a h.0, h.1)
