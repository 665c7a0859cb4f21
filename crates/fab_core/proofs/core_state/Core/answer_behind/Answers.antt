use Rattle.std.proofs.Common.{◌≡◌, List, subst, sym}
use Rattle.std.specs.Prelude.{Option}
use Rattle.std.specs.Option.{option_copied}
use Rattle.fab_node.specs.Standing.{NodeModel}
use Rattle.fab_core.specs.Cores.{CoreModel, slot, world}
use Rattle.fab_core.specs.Telling.{HasAnswer, HasJobAt, TellsAnswer}
use Rattle.fab_core.proofs.Whole.{core_answers}
use Rattle.fab_core.proofs.core_state.Core.answer_behind.Goals as goal

pub returns : goal.returns
returns g c =
    let x = c.self.inside in
    let job = c.args.job.now in
    let told = option_copied c.answer_at.result in
    let P : CoreModel → Type 0 = λ m. TellsAnswer m.given (world m) c.args.worker job told in
    let Q : List (Option NodeModel) → Type 0 = λ nodes. HasAnswer (HasJobAt (slot nodes c.from.result)) job told in
    let Of : CoreModel → Type 0 = λ m. job.program.value ≡ m.given.program in
    subst P c.self.view_is
    (core_answers x.given x.nodes.items x.queues x.places.items x.log.items c.self.invariant.0 c.args.worker job told (subst Of (sym c.self.view_is) c.requires)
    (subst (λ n. HasAnswer (HasJobAt (slot x.nodes.items n)) job told) c.from.ensures (subst Q c.deref.ensures.value c.answer_at.ensures)))
