-- Accepted bundles with one worker: their runs come to what their evaluation comes to.
use Rattle.std.specs.Prelude.{◌≡◌, ℕ, suc, false, true, length, List, [], Some, slice_get}
use Rattle.fab_tree.specs.declared.start.Start.{Start}
use Rattle.fab_language.specs.declared.ending.Ending.{Ending}
use Rattle.fab_language.specs.Evaluation.{course_of}
use Rattle.fab_language.specs.Numbers.{resolved}
use Rattle.fab_rights.specs.declared.rights.Rights.{Rights}
use Rattle.fab_world.specs.Crashing.{IsOver, KeepsLines}
use Rattle.fab_world.specs.Machine.{Setting, Move, outcome}
use Rattle.fab_world.specs.Serial.{IsRun, held_map, world_of}
use Rattle.fab_settings.specs.Settings.{lines_of, setting_of}
use Rattle.fab_ended.specs.Bundles.{HasNoHostile}
use Rattle.fab_ended.specs.Ended.{AreUnmarked}
use Rattle.fab_alone.specs.Alone.{HasRights, IsAlone, first_tid, outcome_by}

module _ (s : Start) (rights : Rights) (n : ℕ) where
  abbrev S : Setting
  S = setting_of (resolved s) rights

  -- Each request of the evaluation is one of the worker's session: it is committed with the result that it ended with, or failed, or stopped at the limit,
  -- as the evaluation says, in the attempt of its own number. And the objects that stores hold are those of the evaluation.
  pub record IsEvaluated (moves : List Move) : Type 0 where
    pub all : length (course_of (resolved s)).endings ≡ S.requests n
    pub outcomes : (k : ℕ) (ending : Ending) → slice_get (course_of (resolved s)).endings k ≡ Some ending
        → outcome S (world_of S moves) n (suc k) ≡ outcome_by (first_tid n (suc k)) ending
    pub held : held_map S (λ m. false) (λ class. true) (world_of S moves) ≡ (course_of (resolved s)).map

  -- Where n is the only worker, no node is declared hostile, there are no crash lines, and the worker has the rights: in each run that keeps the lines, of
  -- none, that is over, and in which no journal call failed.
  abbrev pub RunsAreEvaluated : Type 0
  RunsAreEvaluated = (moves : List Move) → IsAlone S n → HasNoHostile s → s.crashes ≡ [] → HasRights S n → IsRun S moves
      → KeepsLines S (lines_of (resolved s)) moves → AreUnmarked moves → IsOver S (lines_of (resolved s)) moves → IsEvaluated moves
