use Rattle.std.proofs.Common.{subst}
use Rattle.fab_world.specs.Serial.{IsRun}
use Rattle.fab_node.specs.Standing.{IsGiven}
use Rattle.fab_core.specs.Cores.{CoreModel, setting}
use Rattle.fab_core.proofs.core_state.Core.is_a_run.Goals as goal

pub returns : goal.returns
returns g c = record {
  given = let P : CoreModel → Type 0 = λ m. IsGiven m.given in subst P c.self.view_is c.self.invariant.0.given;
  run =
      let P : CoreModel → Type 0 = λ m. IsRun (setting m.given) m.moves in
      subst P c.self.view_is (record { enabled = c.self.invariant.0.run; few = c.self.invariant.0.few });
}
