-- How runs of a bundle end, and what their reports say of it.
use Rattle.std.specs.Prelude.{◌≡◌, ℕ, IsFalse, IsTrue, List, []}
use Rattle.std.specs.List.{AllByRecursion}
use Rattle.fab_tree.specs.declared.resolved.Resolved.{Resolved}
use Rattle.fab_tree.specs.declared.start.Start.{Start}
use Rattle.fab_language.specs.Names.{is_hostile}
use Rattle.fab_language.specs.Numbers.{resolved}
use Rattle.fab_language.specs.Words.{node_text}
use Rattle.fab_rights.specs.declared.rights.Rights.{Rights}
use Rattle.fab_world.specs.Crashing.{IsOver, KeepsLines}
use Rattle.fab_world.specs.Machine.{Setting, Move}
use Rattle.fab_world.specs.Serial.{IsRun, world_of}
use Rattle.fab_settings.specs.Settings.{lines_of, setting_of}
use Rattle.fab_outcomes.specs.Causes.{has_failed, is_final}
use Rattle.fab_reports.specs.declared.line.Line.{Line}
use Rattle.fab_reports.specs.declared.line.Line.TheVariants.{Event, Outcome}
use Rattle.fab_reports.specs.declared.line.ShownEnding.{ShownEnding}
use Rattle.fab_reports.specs.declared.line.ShownEnding.TheVariants.{NodeDown, Silent, Unfinished}
use Rattle.fab_reports.specs.declared.line.ShownEvent.{ShownEvent}
use Rattle.fab_reports.specs.declared.line.ShownEvent.TheVariants.{CrashIn, Inner}
use Rattle.fab_reports.specs.declared.line.ShownInner.TheVariants.{Idle}
use Rattle.fab_shown.specs.Shown as shown
use Rattle.fab_ended.specs.Ended.{AreUnmarked, IsEnded, outcomes_of}
use Rattle.fab_ended.specs.Silence.{IsCalm}

-- ---- lines of reports

-- the request isn't open; and it is down only where its worker's name is that of a node of which a journal call failed
abbrev pub IsEnding : Resolved → List Move → List ℕ → ShownEnding → Type 0
IsEnding r moves worker NodeDown = (n : ℕ) × (worker ≡ node_text r n) × IsTrue (has_failed n moves)
IsEnding r moves worker Unfinished = ⊥
IsEnding r moves worker _ = Unit {0}

abbrev pub IsEndedLine : Resolved → List Move → Line → Type 0
IsEndedLine r moves (Outcome x) = IsEnding r moves x.worker x.ending
IsEndedLine r moves _ = Unit {0}

-- the request is neither open nor down
abbrev pub IsFinal : ShownEnding → Type 0
IsFinal NodeDown = ⊥
IsFinal Unfinished = ⊥
IsFinal _ = Unit {0}

abbrev pub IsFinalLine : Line → Type 0
IsFinalLine (Outcome x) = IsFinal x.ending
IsFinalLine _ = Unit {0}

-- no worker gives up waiting in the event, whole or cut
abbrev pub IsPatient : ShownEvent → Type 0
IsPatient (Inner (Idle worker node)) = ⊥
IsPatient (CrashIn keep (Idle worker node)) = ⊥
IsPatient _ = Unit {0}

-- the request didn't end by a node's silence
abbrev pub IsAnswered : ShownEnding → Type 0
IsAnswered (Silent node) = ⊥
IsAnswered _ = Unit {0}

abbrev pub IsAnsweredLine : Line → Type 0
IsAnsweredLine (Event number event) = IsPatient event
IsAnsweredLine (Outcome x) = IsAnswered x.ending
IsAnsweredLine _ = Unit {0}

-- ---- bundles

-- no node is declared hostile
abbrev pub HasNoHostile : Start → Type 0
HasNoHostile s = AllByRecursion (λ x. IsFalse (is_hostile x.role)) s.program.nodes

module _ (s : Start) (rights : Rights) where
  abbrev S : Setting
  S = setting_of (resolved s) rights

  -- ---- behind a run that is over by the bundle's crash lines

  abbrev pub IsOverRun : List Move → Type 0
  IsOverRun moves = IsRun S moves × IsOver S (lines_of (resolved s)) moves

  -- the outcomes of each session, which no node has but an honest worker
  abbrev pub RequestsEnd : Type 0
  RequestsEnd = (moves : List Move) (n : ℕ) → IsOverRun moves → AllByRecursion (IsEnded moves n) (outcomes_of S (world_of S moves) n)

  abbrev pub RequestsAreFinal : Type 0
  RequestsAreFinal = (moves : List Move) (n : ℕ) → IsOverRun moves → AreUnmarked moves
      → AllByRecursion (λ o. IsTrue (is_final o)) (outcomes_of S (world_of S moves) n)

  -- and the lines of its report
  abbrev pub ReportsEnd : Type 0
  ReportsEnd = (moves : List Move) → IsOverRun moves → AllByRecursion (IsEndedLine (resolved s) moves) (shown.lines_of (resolved s) rights moves)

  abbrev pub ReportsAreFinal : Type 0
  ReportsAreFinal = (moves : List Move) → IsOverRun moves → AreUnmarked moves → AllByRecursion IsFinalLine (shown.lines_of (resolved s) rights moves)

  -- ---- where no node goes down

  -- without crash lines none does in a run that keeps them, unless a journal call fails
  abbrev pub RunsAreCalm : Type 0
  RunsAreCalm = (moves : List Move) → s.crashes ≡ [] → KeepsLines S (lines_of (resolved s)) moves → AreUnmarked moves → IsCalm moves

  abbrev pub ReportsAreAnswered : Type 0
  ReportsAreAnswered = (moves : List Move) → IsRun S moves → IsCalm moves → AllByRecursion IsAnsweredLine (shown.lines_of (resolved s) rights moves)
