-- The headline: what holds of the run of which a report tells, whichever nodes are distrusted.
use Rattle.std.specs.Prelude.{◌≡◌, ℕ, Bool, List, Option, Some, None}
use Rattle.std.specs.Io.KnownBytes.{Appends}
use Rattle.fab_tree.specs.declared.start.Start.{Start}
use Rattle.fab_rights.specs.declared.rights.Rights.{Rights}
use Rattle.fab_rights.specs.Computed.{has_bit}
use Rattle.fab_world.specs.Machine.{Move}
use Rattle.fab_world.specs.Serial.{IsRun}
use Rattle.fab_settings.specs.Settings.{IsAcceptedWith}
use Rattle.fab_node.specs.Standing.{GivenModel}
use Rattle.fab_core.specs.Cores.{setting}
use Rattle.fab_command.specs.declared.command.Command.{Command}
use Rattle.fab_command.specs.declared.command.Command.TheVariants.{Run}
use Rattle.fab_replay.specs.declared.replayed.Wanted.{Wanted}
use Rattle.fab_replay.specs.Replays.{HasCounts, IsRunOver, StopsIn, events_of, first_mark, moves_of, text_of}
use Rattle.fab_replay.specs.Integral.{IsExcluded, IsIntegral}
use Rattle.fab_replay.specs.Isolated.{IsIsolated}
use Rattle.fab_replay.specs.Trusted.{IsTrusted}
use Rattle.fab_front.specs.declared.texts.Outcome.TheVariants as outcome
use Rattle.fab_front.specs.Front.{Front}
use Rattle.fab_front.specs.Reading.{ReadsText}
use Rattle.fab_reply.specs.Replays.{Wants, given_of}

-- the run of the schedule, or up to the event in which this node's journal failed
abbrev pub IsOfSchedule : GivenModel → List Move → Type 0
IsOfSchedule g moves = moves ≡ moves_of (events_of g.program)

abbrev pub IsOfFault : ℕ → GivenModel → List Move → Type 0
IsOfFault node g moves = StopsIn g moves node

-- The run of which a command's whole text tells: the schedule's. Of `run` it is one that the nodes made by themselves, which keeps the crash lines,
-- behind which nothing is due, and in which no journal failed.
abbrev pub IsWholeFor : Option Command → GivenModel → List Move → Type 0
IsWholeFor (Some (Run x)) g moves = IsRunOver g moves × (first_mark moves ≡ None)
IsWholeFor _ g moves = IsOfSchedule g moves

-- The run of which it tells where this node's journal failed: the schedule's up to there. Of `run` it is such a run, too, to its end, in which this
-- node's is the first journal that failed.
abbrev pub IsPartFor : Option Command → ℕ → GivenModel → List Move → Type 0
IsPartFor (Some (Run x)) node g moves = IsRunOver g moves × (first_mark moves ≡ Some node)
IsPartFor _ node g moves = IsOfFault node g moves

-- A text was read that spells an accepted bundle, and what was written is the text that the command wants of one run from its start, of which P
-- holds: for `replay` and `run` its report, and for `watch` that and what is read of a root, each time behind so many commits of the run: these numbers
-- never fall, and the last is that of all. And for every set of nodes that contains the hostile ones, each object whose integrity excludes the set holds
-- what replaying the committed requests of the others in the order of their decisions gives, each at most once; and what trusted replay of these requests
-- gives, in which of what was answered endorsed values alone have part; and each node outside the set has sent each node of it exactly the public
-- replay of the release record.
pub record Headline (command : Option Command) (P : GivenModel → List Move → Type 0) (left left' written written' : Option (List ℕ)) : Type 0 where
  pub text : List ℕ
  pub start : Start
  pub rights : Rights
  pub asked : Command
  pub wanted : Wanted
  pub moves : List Move
  pub read : ReadsText left left' text
  pub spelled : Front text (outcome.Bundle start)
  pub accepted : IsAcceptedWith start rights
  pub command_is : command ≡ Some asked
  pub wants : Wants start asked wanted
  pub run : IsRun (setting (given_of start rights)) moves
  pub events : P (given_of start rights) moves
  pub reported : Appends written written' (text_of (given_of start rights) wanted moves)
  pub counted : HasCounts (given_of start rights) wanted moves
  pub integral : (nodes : ℕ) (ex : ℕ → Bool) → IsExcluded (given_of start rights) nodes ex → IsIntegral (given_of start rights) moves (has_bit nodes) ex
  pub isolated : IsIsolated (given_of start rights) moves
  pub trusted : IsTrusted (given_of start rights) moves
