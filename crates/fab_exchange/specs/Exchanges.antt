-- What every exchange is: its run keeps the crash lines of the bundle, its counts are those of the run, and marks stand where journals failed.
use Rattle.std.specs.Prelude.{◌≡◌, ◌<◌, ◌==◌, ◌&&◌, ℕ, Bool, true, false, List, Option, length, slice_index_or}
use Rattle.std.specs.List.{list_any}
use Rattle.fab_rights.specs.Computed.{nodes_in}
use Rattle.fab_world.specs.Machine.{Move}
use Rattle.fab_world.specs.Crashing.{KeepsLines, crashes_of, events_of}
use Rattle.fab_settings.specs.Settings.{lines_of}
use Rattle.fab_node.specs.Standing.{JournalModel}
use Rattle.fab_core.specs.Cores.{CoreModel, setting, slot}
use Rattle.fab_net.specs.Events.{node_at}
use Rattle.fab_core.specs.Moved.{faults_in, sure_in}
use Rattle.fab_exchange.specs.declared.counting.Count.{Count}

-- a journal call failed in an event of this node
abbrev pub has_mark : List Move → ℕ → Bool
has_mark moves n = list_any (λ move. move.marked && (node_at move.event == n)) moves

-- the journal of a node has failed exactly where a mark stands, which none that never fails has
pub record IsMarked (marked : Bool) (journal : Option JournalModel) : Type 0 where
  pub failed : marked ≡ true → 0 < faults_in journal
  pub sound : marked ≡ false → faults_in journal ≡ 0
  pub never : sure_in journal ≡ true → marked ≡ false

abbrev pub none_yet : Count
none_yet = record { events = 0; crashes = 0 }

-- the events and crashes of each node so far
pub record AreCounts (moves : List Move) (counts : List Count) : Type 0 where
  pub long : length counts ≡ 64
  pub each : (n : ℕ) → n < 64 → slice_index_or counts n none_yet ≡ record { events = events_of n moves; crashes = crashes_of n moves }

pub record IsExchange (core : CoreModel) (nodes : List ℕ) (counts : List Count) : Type 0 where
  pub nodes_are : nodes ≡ nodes_in core.given.rights
  pub lined : KeepsLines (setting core.given) (lines_of core.given.program) core.moves
  pub counted : AreCounts core.moves counts
  pub marked : (n : ℕ) → IsMarked (has_mark core.moves n) (slot core.journals n)
