use Rattle.std.proofs.Common.{ℕ, map, subst}
use Rattle.fab_core.specs.Cores.{CoreModel, move_of, slot, world, world_by}
use Rattle.fab_core.specs.Telling.{IsJournalAt}
use Rattle.fab_core.proofs.Between.{journals_at}
use Rattle.fab_core.proofs.core_state.Core.journals_are.Goals as goal

pub returns : goal.returns
returns g c =
    let x = c.self.inside in
    let P : CoreModel → Type 0 = λ m. (n : ℕ) → IsJournalAt m.given ((world m).node n) n (slot m.journals n) in
    subst P c.self.view_is (journals_at x.given (world_by x.given (map move_of x.log.items)) x.nodes.items c.self.invariant.0.stands.standing)
