-- A run that threads have made, as the exchange tells of it.
use Rattle.std.specs.Prelude.{◌≡◌, ℕ, List, Option}
use Rattle.fab_world.specs.Machine.{Move}
use Rattle.fab_world.specs.Crashing.{KeepsLines}
use Rattle.fab_settings.specs.Settings.{lines_of}
use Rattle.fab_node.specs.Standing.{JournalModel}
use Rattle.fab_core.specs.Cores.{CoreModel, setting, slot}
use Rattle.fab_exchange.specs.Exchanges as exchange
use Rattle.fab_exchange.specs.Turns.{AreAsSure, AreOver}
use Rattle.fab_replay.specs.Courses.{HasRun, HasStopped}
use Rattle.fab_replay.specs.Running.{AreMarked}

-- a mark stands exactly where a journal failed
are_marked : (moves : List Move) (journals : List (Option JournalModel))
    → ((n : ℕ) → exchange.IsMarked (exchange.has_mark moves n) (slot journals n)) → AreMarked moves journals
are_marked moves journals are n = let x = are n in record { failed = x.failed; sound = x.sound; never = x.never }

pub has_run : (first last : CoreModel) → last.given ≡ first.given → AreAsSure first.journals last.journals
    → KeepsLines (setting last.given) (lines_of last.given.program) last.moves → AreOver last.given last.moves
    → ((n : ℕ) → exchange.IsMarked (exchange.has_mark last.moves n) (slot last.journals n)) → HasRun first last
has_run first last same sure lined over marked = record {
  given = same;
  over = record { lined = lined; over = over };
  marked = are_marked last.moves last.journals marked;
  sure = sure;
}

pub has_stopped : (first last : CoreModel) → last.given ≡ first.given → AreAsSure first.journals last.journals
    → KeepsLines (setting last.given) (lines_of last.given.program) last.moves
    → ((n : ℕ) → exchange.IsMarked (exchange.has_mark last.moves n) (slot last.journals n)) → HasStopped first last
has_stopped first last same sure lined marked = record { given = same; lined = lined; marked = are_marked last.moves last.journals marked; sure = sure }
