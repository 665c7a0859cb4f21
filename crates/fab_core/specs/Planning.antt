-- What the calls that plan an event ask of nodes and queues.
use Rattle.std.specs.Prelude.{◌≡◌, ℕ, ◌<◌, not, true, IsTrue, List, Option, Some, None}
use Rattle.fab_net.specs.declared.event.Event.{Event}
use Rattle.fab_net.specs.declared.event.Event.TheVariants as events
use Rattle.fab_net.specs.declared.event.Inner.{Inner}
use Rattle.fab_net.specs.declared.event.Inner.TheVariants as i
use Rattle.fab_eval.specs.declared.done.Done.{Done}
use Rattle.fab_queues.specs.Channels.{Network, queue_of}
use Rattle.fab_world.specs.Machine.{Node, is_empty}
use Rattle.fab_node.specs.Deeds.{MayResume, MayGiveUp}
use Rattle.fab_node.specs.Standing.{GivenModel, NodeModel, Stands}
use Rattle.fab_core.specs.Cores.{slot}

-- it stands for some node that is up
abbrev pub IsUp : NodeModel → Type 0
IsUp node = (g : GivenModel) × (x : Node) × Stands g x node × (x.up ≡ true)

-- there is an honest node of this number
abbrev pub IsThere : ℕ → List (Option NodeModel) → Type 0
IsThere n nodes = (node : NodeModel) × (slot nodes n ≡ Some node)

abbrev pub CanResume : Done → ℕ → List (Option NodeModel) → Type 0
CanResume done n nodes = (node : NodeModel) × (slot nodes n ≡ Some node) × MayResume done node.role × IsUp node

abbrev pub CanDeliver : ℕ → List (Option NodeModel) → Type 0
CanDeliver n nodes = (node : NodeModel) × (slot nodes n ≡ Some node) × IsUp node

abbrev pub CanGiveUp : ℕ → ℕ → List (Option NodeModel) → Type 0
CanGiveUp s n nodes = (node : NodeModel) × (slot nodes n ≡ Some node) × MayGiveUp s node.role × IsUp node

-- something waits from a to b
pub record HasFront (queues : Network) (a b : ℕ) : Type 0 where
  pub sender : a < queues.nodes
  pub receiver : b < queues.nodes
  pub some : IsTrue (not (is_empty (queue_of queues a b)))

abbrev pub CanPlan : Inner → Option Done → List (Option NodeModel) → Network → Type 0
CanPlan (i.Begin n) _ nodes queues = Unit {0}
CanPlan (i.Resume n) None nodes queues = ⊥
CanPlan (i.Resume n) (Some done) nodes queues = CanResume done n nodes
CanPlan (i.Deliver a b) _ nodes queues = CanDeliver b nodes × HasFront queues a b
CanPlan (i.Idle n s) _ nodes queues = CanGiveUp s n nodes
CanPlan (i.Recover n) _ nodes queues = IsThere n nodes

-- an event that isn't cut
abbrev pub IsUncut : Event → Type 0
IsUncut (events.CrashIn keep inner) = ⊥
IsUncut _ = Unit {0}
