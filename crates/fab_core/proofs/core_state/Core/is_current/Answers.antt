use Rattle.std.proofs.Common.{◌≡◌, List, subst, sym}
use Rattle.std.specs.Prelude.{Option, Some}
use Rattle.std.specs.Bool.{MatchBool}
use Rattle.fab_node.specs.Standing.{NodeModel}
use Rattle.fab_core.specs.Cores.{CoreModel, slot, world}
use Rattle.fab_core.specs.Telling.{HasJobAt, TellsJob}
use Rattle.fab_core.proofs.Whole.{core_decides}
use Rattle.fab_core.proofs.core_state.Core.is_current.Goals as goal

pub returns : goal.returns
returns g c =
    let x = c.self.inside in
    let job = c.args.job.now in
    let b = c.is_job_at.result in
    let P : CoreModel → Type 0 = λ m. MatchBool b (TellsJob m.given (world m) c.args.worker (Some job)) (TellsJob m.given (world m) c.args.worker (Some job) → ⊥) in
    let Q : List (Option NodeModel) → Type 0 = λ nodes. MatchBool b (HasJobAt (slot nodes c.from.result) job) (HasJobAt (slot nodes c.from.result) job → ⊥) in
    let Of : CoreModel → Type 0 = λ m. job.program.value ≡ m.given.program in
    subst P c.self.view_is
    (core_decides x.given x.nodes.items x.queues x.places.items x.log.items c.self.invariant.0 c.args.worker job b (subst Of (sym c.self.view_is) c.requires)
    (subst (λ n. MatchBool b (HasJobAt (slot x.nodes.items n) job) (HasJobAt (slot x.nodes.items n) job → ⊥)) c.from.ensures (subst Q c.deref.ensures.value c.is_job_at.ensures)))
