-- Steps of an audit: how far the events that are told come.
use Rattle.std.specs.Prelude.{◌≡◌, ◌==◌, ℕ, Bool, true, false, IsTrue, List, ◌∷◌, ◌++◌, [], length, Option, Some, None, if◌then◌else◌}
use Rattle.fab_net.specs.declared.event.Event.{Event}
use Rattle.fab_net.specs.declared.event.Event.TheVariants.{CrashIn}
use Rattle.fab_net.specs.declared.event.Inner.{Inner}
use Rattle.fab_world.specs.Machine.{Move, at_start, enabled, form_of}
use Rattle.fab_node.specs.Standing.{GivenModel, JournalModel}
use Rattle.fab_core.specs.Cores.{setting, slot, world_by}
use Rattle.fab_core.specs.Moved.{sure_in}
use Rattle.fab_evidence.specs.declared.shown.Told.{Told}
use Rattle.fab_audit.specs.Runs.{front_from}

-- no journal of a node ever fails
abbrev pub AreSure : List (Option JournalModel) → Type 0
AreSure journals = (n : ℕ) → IsTrue (sure_in (slot journals n))

-- what is cut before its first byte
abbrev pub cut_at_first : Event → Option Inner
cut_at_first (CrashIn keep inner) = if keep == 0 then Some inner else None
cut_at_first _ = None

abbrev pub told_move : Event → Bool → Move
told_move event marked = record { event = event; marked = marked }

-- whether an event that is told came: it may, and the moves are one more; or it may not, and they are as they were
abbrev pub ComesAsTold : GivenModel → List Move → List Move → Event → Bool → Bool → Type 0
ComesAsTold g old new event marked true =
    (enabled (setting g) (world_by g old) (form_of (told_move event marked)) ≡ true) × (new ≡ old ++ told_move event marked ∷ [])
ComesAsTold g old new event marked false = (enabled (setting g) (world_by g old) (form_of (told_move event marked)) ≡ false) × (new ≡ old)

-- the moves are those of the events up to the first that may not come or names no node, and whether these are all
pub record RunsAsTold (g : GivenModel) (told : List (Option Told)) (moves : List Move) (all : Bool) : Type 0 where
  pub moves_are : moves ≡ front_from (setting g) (at_start (setting g)) told
  pub all_is : all ≡ (length moves == length told)
