-- What a bundle comes to whose run is over and in which no journal failed.
use Rattle.std.specs.Prelude.{◌≡◌, ℕ, IsTrue, List, []}
use Rattle.std.specs.List.{AllByRecursion}
use Rattle.fab_tree.specs.declared.start.Start.{Start}
use Rattle.fab_language.specs.Numbers.{resolved}
use Rattle.fab_rights.specs.declared.rights.Rights.{Rights}
use Rattle.fab_world.specs.Machine.{Setting, Move}
use Rattle.fab_world.specs.Serial.{world_of}
use Rattle.fab_settings.specs.Settings.{setting_of}
use Rattle.fab_outcomes.specs.Causes.{is_final}
use Rattle.fab_shown.specs.Shown.{lines_of}
use Rattle.fab_ended.specs.Bundles.{HasNoHostile, IsAnsweredLine, IsFinalLine}
use Rattle.fab_ended.specs.Ended.{outcomes_of}
use Rattle.fab_alone.specs.Alone.{HasRights, IsAlone}
use Rattle.fab_alone.specs.Bundles.{IsEvaluated}

module _ (s : Start) (rights : Rights) (moves : List Move) where
  abbrev S : Setting
  S = setting_of (resolved s) rights

  pub record IsComplete : Type 0 where
    -- each request of each session has an outcome that stays
    pub final : (n : ℕ) → AllByRecursion (λ o. IsTrue (is_final o)) (outcomes_of S (world_of S moves) n)
    -- and no line of its report says that one is open or down
    pub told : AllByRecursion IsFinalLine (lines_of (resolved s) rights moves)
    -- where no node is hostile and none is to crash, none ended by a node's silence
    pub answered : HasNoHostile s → s.crashes ≡ [] → AllByRecursion IsAnsweredLine (lines_of (resolved s) rights moves)
    -- and if n is then the only worker and has the rights, its requests come to what `eval` says
    pub evaluated : (n : ℕ) → IsAlone S n → HasNoHostile s → s.crashes ≡ [] → HasRights S n → IsEvaluated s rights n moves
