use Rattle.std.proofs.Common.{ℕ, subst}
use Rattle.fab_world.specs.Crashing.{KeepsLines}
use Rattle.fab_settings.specs.Settings.{lines_of}
use Rattle.fab_core.specs.Cores.{CoreModel, setting, slot}
use Rattle.fab_exchange.specs.Exchanges.{IsMarked, has_mark}
use Rattle.fab_exchange.proofs.exchange.Exchange.marks.Goals as goal

pub returns : goal.returns
returns g c = record {
  lined = let P : CoreModel → Type 0 = λ m. KeepsLines (setting m.given) (lines_of m.given.program) m.moves in subst P c.self.view_is c.self.invariant.lined;
  marked = let P : CoreModel → Type 0 = λ m. (n : ℕ) → IsMarked (has_mark m.moves n) (slot m.journals n) in subst P c.self.view_is c.self.invariant.marked;
}
