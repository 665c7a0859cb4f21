-- Runs that stop before anything has come.
use Rattle.std.specs.Prelude.{◌≡◌, ℕ, [], List}
use Rattle.std.proofs.Common.{refl, sym, subst}
use Rattle.fab_settings.specs.Settings.{lines_of}
use Rattle.fab_world.specs.Crashing.{KeepsLines}
use Rattle.fab_world.specs.Machine.{Move}
use Rattle.fab_core.specs.Cores.{CoreModel, setting, slot}
use Rattle.fab_replay.specs.Courses.{HasStopped, IsAtStart}
use Rattle.fab_replay.specs.Running.{AreMarked}

pub not_begun : (core : CoreModel) → IsAtStart core → HasStopped core core
not_begun core start = record {
  given = refl;
  lined = subst (λ (moves : List Move). KeepsLines (setting core.given) (lines_of core.given.program) moves) (sym start.moves) refl;
  marked = subst (λ (moves : List Move). AreMarked moves core.journals) (sym start.moves) (λ n. record { failed = λ e. absurd (cc); sound = λ e. start.unfailed n; never = λ e. refl });
  sure = λ n. refl;
}
