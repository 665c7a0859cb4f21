-- The object that a worker waits for can be an answer more.
use Rattle.std.proofs.Common.{◌≡◌, ℕ, ◌≤◌, IsTrue, IsFalse, List, Option, sym, subst}
use Rattle.fab_base.specs.declared.object.Oid.{Oid}
use Rattle.fab_base.specs.declared.object.Object.{Object}
use Rattle.fab_base.specs.declared.object.Tid.{Tid}
use Rattle.fab_base.specs.FlatMap.{is_among}
use Rattle.fab_tree.specs.declared.resolved.Request.{Request}
use Rattle.fab_tree.specs.declared.resolved.Resolved.{Resolved}
use Rattle.fab_rights.specs.Computed.{suits}
use Rattle.fab_protocol.specs.Versions.{Rows, names_of}
use Rattle.fab_world.specs.Workers.{Phase, is_made_before}
use Rattle.fab_world.specs.Workers as phases
use Rattle.fab_attempts.specs.Sessions.{IsProgramOf}
use Rattle.fab_attempts.proofs.Suiting.{answer_shaped}
use Rattle.fab_worker.specs.declared.stage.Stage.{Stage}
use Rattle.fab_worker.specs.declared.stage.Stage.TheVariants as stages
use Rattle.fab_worker.specs.declared.change.Change.TheVariants as c
use Rattle.fab_worker.specs.Models.{WorkerModel, phase_of}
use Rattle.fab_worker.specs.Invariants.{IsStage}
use Rattle.fab_worker.specs.Plans.{CanChange, IsAtWork}

-- what is fetched isn't among these
abbrev pub IsUnanswered : List Oid → Phase → Type 0
IsUnanswered names (phases.Fetching o) = IsFalse (is_among o names)
IsUnanswered names _ = Unit {0}

pub stage_unanswered : (program : Resolved) (t : Tid) (answers : Rows) (request : Option Request) (at : Stage) → IsStage program t answers request at → IsUnanswered (names_of answers) (phase_of at)
stage_unanswered program t answers request stages.Idle is = tt
stage_unanswered program t answers request stages.Evaluating is = tt
stage_unanswered program t answers request (stages.Fetching o) is = is
stage_unanswered program t answers request (stages.Preparing coordinator parts) is = tt

pub can_answer : (x : WorkerModel) (o : Oid) (version : ℕ) (object : Object) → IsProgramOf x.program x.node x.rights → IsTrue (suits x.rights o object)
    → IsTrue (is_made_before x.rights x.program.cache x.node x.kept o x.attempt) → IsUnanswered (names_of x.attempt.answers) x.attempt.phase
    → 1 ≤ x.spare_answers → x.attempt.phase ≡ phases.Fetching o → CanChange x (c.Answered (o, version, object))
can_answer x o version object program suited before new room fetching = (
  record {
    known = record { shaped = answer_shaped x.program x.node x.rights o object program suited; made = before };
    new = subst (IsUnanswered (names_of x.attempt.answers)) fetching new;
    room = room;
  },
  subst IsAtWork (sym fetching) tt,
)
