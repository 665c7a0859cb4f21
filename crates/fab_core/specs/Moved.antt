-- What an event makes of all nodes: the move by which the run grows, and what became of the journals.
use Rattle.std.specs.Prelude.{◌≡◌, ◌≤◌, ℕ, Bool, true, IsTrue, List, [], ◌∷◌, ◌++◌, Option, Some, None, Result, Ok, Err, IfOk, OnOk, OnErr}
use Rattle.fab_base.specs.Faults.{Rose}
use Rattle.fab_net.specs.declared.event.Event.{Event}
use Rattle.fab_net.specs.declared.event.Inner.{Inner}
use Rattle.fab_net.specs.Events.{node_at}
use Rattle.fab_world.specs.Machine.{Move}
use Rattle.fab_node.specs.Standing.{JournalModel}
use Rattle.fab_core.specs.Cores.{CoreModel, failure, marked, slot, unmarked}
use Rattle.fab_core.specs.declared.applied.Applied.{Applied}
use Rattle.fab_core.specs.declared.applied.Applied.TheVariants as a

-- a mark says that a call of the journal failed
abbrev pub move_by : Applied → Event → Move
move_by a.Whole event = unmarked event
move_by a.Cut event = marked event

abbrev pub IsCut : {E : Type 0} → Result Applied E → Type 0
IsCut (Ok a.Cut) = Unit {0}
IsCut (Ok a.Whole) = ⊥
IsCut (Err problem) = ⊥

-- ---- journals

-- the count of a node's journal, and whether it never fails; what isn't there has no fault
abbrev pub faults_in : Option JournalModel → ℕ
faults_in None = 0
faults_in (Some journal) = journal.faults

abbrev pub sure_in : Option JournalModel → Bool
sure_in None = true
sure_in (Some journal) = journal.sure

-- The other nodes' journals are as they were. The count of this node's never falls, and rises exactly where the event was cut for it, which a
-- journal that never fails rules out.
pub record IsCaused (n : ℕ) (Cuts : Type 0) (old new : List (Option JournalModel)) : Type 0 where
  pub others : (m : ℕ) → (m ≡ n → ⊥) → slot new m ≡ slot old m
  pub later : faults_in (slot old n) ≤ faults_in (slot new n)
  pub risen : Cuts → Rose (faults_in (slot old n)) (faults_in (slot new n))
  pub same : (Cuts → ⊥) → faults_in (slot new n) ≡ faults_in (slot old n)
  pub sure : sure_in (slot new n) ≡ sure_in (slot old n)
  pub never : IsTrue (sure_in (slot old n)) → Cuts → ⊥

-- ---- what became of all

-- What was given stays. The moves are one more: the event, with a mark where it was cut for its journal. Without memory they are as before.
pub record IsMoved {E : Type 0} (event : Event) (result : Result Applied E) (old new : CoreModel) : Type 0 where
  pub given : new.given ≡ old.given
  pub moves : IfOk result (λ applied. new.moves ≡ old.moves ++ move_by applied event ∷ [])
  pub memory : OnErr result (new.moves ≡ old.moves)
  pub cause : IsCaused (node_at event) (IsCut result) old.journals new.journals

-- A call of a journal counts as having failed in an event. What was given stays, and the journals do. The moves are one more; without memory they
-- are as before.
pub record HasFailed {X E : Type 0} (inner : Inner) (result : Result X E) (old new : CoreModel) : Type 0 where
  pub given : new.given ≡ old.given
  pub moves : OnOk result (new.moves ≡ old.moves ++ failure inner ∷ [])
  pub memory : OnErr result (new.moves ≡ old.moves)
  pub journals : new.journals ≡ old.journals
