-- What an event does at the slot of its node.
use Rattle.std.specs.Prelude.{◌≡◌, ◌<◌, ℕ, List, Option, Some, None, map, length}
use Rattle.std.specs.Option.{option_map}
use Rattle.fab_eval.specs.declared.done.Done.{Done}
use Rattle.fab_net.specs.declared.event.Inner.{Inner}
use Rattle.fab_net.specs.declared.note.Step.{Step}
use Rattle.fab_world.specs.Machine.{Node, node_of}
use Rattle.fab_node.specs.Standing.{GivenModel, JournalModel, NodeModel, Stands}
use Rattle.fab_node.specs.Deeds.{down, failed}
use Rattle.fab_core.specs.Cores.{count_in, slot}
use Rattle.fab_nodes.specs.Acts.{HasRecord, IsAbout, IsCutTo, IsDone, IsFailed, IsReadyFor, MayPlan, StandsStill}

-- the node of this number has a slot
pub record IsAt (n : ℕ) (nodes : List (Option NodeModel)) (node : NodeModel) : Type 0 where
  pub there : slot nodes n ≡ Some node
  pub number : node.number ≡ n

abbrev pub MayPlanAt : GivenModel → Inner → Option Done → List (Option NodeModel) → Type 0
MayPlanAt g e over nodes = (node : NodeModel) × IsAt (node_of e) nodes node × MayPlan g e over node × IsReadyFor g e node

pub record IsDoneAt (g : GivenModel) (e : Inner) (bytes : List ℕ) (old new : List (Option NodeModel)) (step : Step) : Type 0 where
  pub before : NodeModel
  pub after : NodeModel
  pub there : IsAt (node_of e) old before
  pub here : IsAt (node_of e) new after
  pub done : (x : Node) → Stands g x before → IsAbout e x → IsDone g e bytes x after step

pub record IsFailedAt (g : GivenModel) (e : Inner) (bytes : List ℕ) (old new : List (Option NodeModel)) : Type 0 where
  pub before : NodeModel
  pub after : NodeModel
  pub there : IsAt (node_of e) old before
  pub here : IsAt (node_of e) new after
  pub failed : (x : Node) → Stands g x before → IsAbout e x → IsFailed g e bytes x after

pub record IsStillAt (g : GivenModel) (e : Inner) (old new : List (Option NodeModel)) : Type 0 where
  pub before : NodeModel
  pub after : NodeModel
  pub there : IsAt (node_of e) old before
  pub here : IsAt (node_of e) new after
  pub still : StandsStill g before after

abbrev pub HasRecordAt : GivenModel → Inner → List ℕ → ℕ → List (Option NodeModel) → Type 0
HasRecordAt g e bytes keep nodes = (node : NodeModel) × IsAt (node_of e) nodes node × ((x : Node) × Stands g x node × IsAbout e x × HasRecord g e bytes keep x)

pub record IsCutToAt (g : GivenModel) (e : Inner) (bytes : List ℕ) (keep : ℕ) (old new : List (Option NodeModel)) (step : Option Step) : Type 0 where
  pub before : NodeModel
  pub after : NodeModel
  pub there : IsAt (node_of e) old before
  pub here : IsAt (node_of e) new after
  pub done : (x : Node) → Stands g x before → IsAbout e x → IsCutTo g e bytes keep x after step

-- a call of the journal failed
pub record IsLostAt (g : GivenModel) (e : Inner) (old new : List (Option NodeModel)) : Type 0 where
  pub before : NodeModel
  pub after : NodeModel
  pub there : IsAt (node_of e) old before
  pub here : IsAt (node_of e) new after
  pub failed : (x : Node) → Stands g x before → IsAbout e x → Stands g (failed x) after

abbrev pub HasNode : ℕ → List (Option NodeModel) → Type 0
HasNode n nodes = (node : NodeModel) × IsAt n nodes node

-- it goes down
pub record IsDownAt (n : ℕ) (old new : List (Option NodeModel)) : Type 0 where
  pub before : NodeModel
  pub after : NodeModel
  pub there : IsAt n old before
  pub here : IsAt n new after
  pub stands : (g : GivenModel) (x : Node) → Stands g x before → Stands g (down x) after

-- it goes down for good, with the journal that it had
pub record HasFailedAt (n : ℕ) (old new : List (Option NodeModel)) : Type 0 where
  pub before : NodeModel
  pub after : NodeModel
  pub there : IsAt n old before
  pub here : IsAt n new after
  pub journal : after.journal ≡ before.journal
  pub stands : (g : GivenModel) (x : Node) → Stands g x before → Stands g (failed x) after

-- the others are as they were
pub record AreOthers (n : ℕ) (old new : List (Option NodeModel)) : Type 0 where
  pub long : length new ≡ length old
  pub others : (m : ℕ) → (m ≡ n → ⊥) → slot new m ≡ slot old m
  pub many : count_in new ≡ count_in old

abbrev pub journals_of : List (Option NodeModel) → List (Option JournalModel)
journals_of nodes = map (option_map (λ x. x.journal)) nodes
