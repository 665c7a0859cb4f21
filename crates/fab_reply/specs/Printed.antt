-- What is written of a run can be read back.
use Rattle.std.specs.Prelude.{◌++◌, ℕ, List, Option, Some}
use Rattle.std.specs.Io.KnownBytes.{Appends}
use Rattle.fab_language.specs.Numbers.{resolved}
use Rattle.fab_world.specs.Machine.{Move}
use Rattle.fab_node.specs.Standing.{GivenModel}
use Rattle.fab_command.specs.declared.command.Command.{Command}
use Rattle.fab_command.specs.declared.command.Telling.TheVariants as telling
use Rattle.fab_command.specs.declared.command.Command.TheVariants.{Replay, Run}
use Rattle.fab_reports.specs.Reports.{IsReport}
use Rattle.fab_shown.specs.Shown.{lines_of, report_of}
use Rattle.fab_core.specs.Cores.{setting}
use Rattle.fab_reads.specs.declared.reading.Reading.{Reading}
use Rattle.fab_reads.specs.Reads.{AreCounts, reads_text, values_after}
use Rattle.fab_rights.specs.Computed.{has_bit}
use Rattle.fab_replay.specs.Reading.{IsReadingOf}
use Rattle.fab_replay.specs.Replays.{commits_of_run}
use Rattle.fab_reply.specs.Replays.{given_of}
use Rattle.fab_reply.specs.Headline.{Headline, IsOfFault, IsOfSchedule, IsPartFor, IsWholeFor}

-- with the headline of a command that wants a report, what was written is the report of the lines that its run shows
abbrev pub AreReadBackOf : Command → (GivenModel → List Move → Type 0) → Type 0
AreReadBackOf command P =
    (left left' written written' : Option (List ℕ)) (h : Headline (Some command) P left left' written written')
    → Appends written written' (report_of (resolved h.start) h.rights h.moves)
    × IsReport (report_of (resolved h.start) h.rights h.moves) (lines_of (resolved h.start) h.rights h.moves)

-- With the headline of `watch`, what was written is that report, and behind it what is read of the root of this name, which may be read: of each line the
-- values that its object has behind so many commits of the run, each evaluated again in one whole. These numbers never fall, and the last is that of
-- all. What is seen are the classes that no hostile node may have influenced.
pub record IsWatched (root : List ℕ) (times : ℕ) (P : GivenModel → List Move → Type 0) (left left' written written' : Option (List ℕ))
    (h : Headline (Some (Run (telling.Reads root times))) P left left' written written') : Type 0 where
  pub reading : Reading
  pub asked : IsReadingOf (resolved h.start) root times reading
  pub counts : List ℕ
  pub counted : AreCounts times (commits_of_run (given_of h.start h.rights) h.moves) counts
  pub shown : Appends written written'
      (report_of (resolved h.start) h.rights h.moves
      ++ reads_text (resolved h.start)
      (values_after (setting (given_of h.start h.rights)) (has_bit reading.classes) (commits_of_run (given_of h.start h.rights) h.moves) reading.oid) counts)
  pub readable : IsReport (report_of (resolved h.start) h.rights h.moves) (lines_of (resolved h.start) h.rights h.moves)

abbrev pub AreWatched : (List ℕ → ℕ → GivenModel → List Move → Type 0) → Type 0
AreWatched P =
    (root : List ℕ) (times : ℕ) (left left' written written' : Option (List ℕ))
    (h : Headline (Some (Run (telling.Reads root times))) (P root times) left left' written written')
    → IsWatched root times (P root times) left left' written written' h

-- of a whole schedule, and up to an event in which a node's journal failed; of a run that nodes made by themselves, without and with such an event,
-- and of one beside which somebody reads
pub record AreReadBack : Type 0 where
  pub whole : AreReadBackOf Replay IsOfSchedule
  pub in_part : (node : ℕ) → AreReadBackOf Replay (IsOfFault node)
  pub ran : AreReadBackOf (Run telling.Report) (IsWholeFor (Some (Run telling.Report)))
  pub ran_on : (node : ℕ) → AreReadBackOf (Run telling.Report) (IsPartFor (Some (Run telling.Report)) node)
  pub watched : AreWatched (λ root times. IsWholeFor (Some (Run (telling.Reads root times))))
  pub watched_on : (node : ℕ) → AreWatched (λ root times. IsPartFor (Some (Run (telling.Reads root times))) node)
