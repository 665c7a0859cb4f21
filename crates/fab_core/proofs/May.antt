-- What may come may be planned by the node that it is of, as it stands in its slot.
use Rattle.std.proofs.Common.{◌≡◌, ℕ, ◌+◌, ◌*◌, ◌≤◌, ◌<◌, Bool, true, false, not, cond, ◌&&◌, nat_lt, IsTrue, List, [], ◌∷◌, Option, Some, None, refl, sym, ap, ◌∙◌, subst, arith}
use Rattle.std.specs.Prelude.{slice_index_or}
use Rattle.std.proofs.lemmas.Bool.{and_parts, ltb-true}
use Rattle.fab_eval.specs.declared.done.Done.{Done}
use Rattle.fab_net.specs.declared.event.Event.{Event}
use Rattle.fab_net.specs.declared.event.Event.TheVariants as e
use Rattle.fab_net.specs.declared.event.Inner.{Inner}
use Rattle.fab_net.specs.declared.event.Inner.TheVariants as i
use Rattle.fab_queues.specs.Channels.{Network, no_traffic, queue_of}
use Rattle.fab_world.specs.Machine.{World, Move, are_enabled, at_start, is_empty, may, node_of}
use Rattle.fab_world.specs.Serial.{attempts}
use Rattle.fab_worker.specs.Records.{boots_in}
use Rattle.fab_node.specs.Standing.{GivenModel, NodeModel, Stands}
use Rattle.fab_nodes.specs.Acts.{MayPlan}
use Rattle.fab_core.specs.Cores.{EventHasDone, InnerHasDone, NodesStand, SlotStands, setting, slot, world_by}
use Rattle.fab_core.specs.Planning.{CanPlan, HasFront, IsUp}
use Rattle.fab_core.specs.Telling.{inner_of}
use Rattle.fab_core.proofs.Allowed.{allowed, honest_does}
use Rattle.fab_core.proofs.Bounds.{boots_few, number_few}
use Rattle.fab_core.proofs.Slots.{honest_slot}
use Rattle.fab_core.proofs.Steady.{AreSteady, all_steady}

some_is : {x y : Inner} → Some x ≡ Some y → x ≡ y
some_is h = cc

none_some : {x : Inner} → let none : Option Inner = None in none ≡ Some x → ⊥
none_some h = cc

-- ---- queues

front_by : (queues : Network) (a b : ℕ) (t : Bool) → nat_lt a queues.nodes && nat_lt b queues.nodes ≡ t
    → IsTrue (not (is_empty (cond t (slice_index_or queues.pairs (a * queues.nodes + b) no_traffic) no_traffic).waiting))
    → (a < queues.nodes) × (b < queues.nodes)
front_by queues a b true e h = let p = and_parts (nat_lt a queues.nodes) (nat_lt b queues.nodes) e in (ltb-true _ _ p.0, ltb-true _ _ p.1)
front_by queues a b false e h = absurd (cc)

-- a message that waits is from one of the first numbers to another
front_at : (queues : Network) (a b : ℕ) → IsTrue (not (is_empty (queue_of queues a b))) → HasFront queues a b
unfolding queue_of
front_at queues a b h =
    let p = front_by queues a b (nat_lt a queues.nodes && nat_lt b queues.nodes) refl h in record { sender = p.0; receiver = p.1; some = h }

-- ---- plans

-- of a node that is up, or comes back
plan_up : (g : GivenModel) (w : World) (nodes : List (Option NodeModel)) (queues : Network) (e : Inner) (over : Option Done) (x : NodeModel)
    → slot nodes (node_of e) ≡ Some x → Stands g (w.node (node_of e)) x → IsTrue (may (setting g) w e) → ((a b : ℕ) → queue_of queues a b ≡ w.queue a b)
    → MayPlan g e over x → CanPlan e over nodes queues
plan_up g w nodes queues (i.Begin n) over x there s can queue h = tt
plan_up g w nodes queues (i.Resume n) None x there s can queue h = h
plan_up g w nodes queues (i.Resume n) (Some over) x there s can queue h =
    (x, there, h, (g, w.node n, s, (and_parts _ _ (and_parts _ _ can).0).1))
plan_up g w nodes queues (i.Deliver a b) over x there s can queue h = (
  (x, there, (g, w.node b, s, (and_parts _ _ (and_parts _ _ (and_parts _ _ can).0).0).1)),
  front_at queues a b (ap (λ q. not (is_empty q)) (queue a b) ∙ (and_parts _ _ can).1),
)
plan_up g w nodes queues (i.Idle n t) over x there s can queue h =
    (x, there, h, (g, w.node n, s, (and_parts _ _ (and_parts _ _ (and_parts _ _ (and_parts _ _ can).0).0).0).1))
plan_up g w nodes queues (i.Recover n) over x there s can queue h = (x, there)

-- the node of an event that may come behind a run that isn't too long is there, and may plan it
pub can_plan : (g : GivenModel) (moves : List Move) (nodes : List (Option NodeModel)) (queues : Network)
    → IsTrue (are_enabled (setting g) (at_start (setting g)) moves) → attempts moves < 4000000000 → NodesStand g (world_by g moves) nodes
    → ((a b : ℕ) → queue_of queues a b ≡ (world_by g moves).queue a b) → (e : Inner) (over : Option Done) → IsTrue (may (setting g) (world_by g moves) e)
    → InnerHasDone g (world_by g moves) e over → CanPlan e over nodes queues
can_plan g moves nodes queues run few stand queue e over can has =
    let w : World = world_by g moves in
    let r = honest_slot g w nodes stand (node_of e) (honest_does g w e can) in
    plan_up g w nodes queues e over r.0 r.1 r.2.2 can queue
    (allowed g w (all_steady (setting g) moves run) (λ n. let h = number_few (setting g) moves n run in omega (arith, h, few))
    (λ n. let h = boots_few (setting g) moves n run in omega (arith, h, few)) e over r.0 r.2.1 r.2.2 can has)

-- what an event asks of its evaluation it asks of what is done in it
pub inner_done : (g : GivenModel) (w : World) (event : Event) (inner : Inner) (over : Option Done) → inner_of event ≡ Some inner → EventHasDone g w event over
    → InnerHasDone g w inner over
inner_done g w (e.Begin n) inner over h d = subst (λ x. InnerHasDone g w x over) (some_is h) tt
inner_done g w (e.Resume n) inner over h d = subst (λ x. InnerHasDone g w x over) (some_is h) d
inner_done g w (e.Deliver a b) inner over h d = subst (λ x. InnerHasDone g w x over) (some_is h) tt
inner_done g w (e.Idle n t) inner over h d = subst (λ x. InnerHasDone g w x over) (some_is h) tt
inner_done g w (e.Recover n) inner over h d = subst (λ x. InnerHasDone g w x over) (some_is h) tt
inner_done g w (e.Post h) inner over is d = absurd (none_some is)
inner_done g w (e.Crash n) inner over is d = absurd (none_some is)
inner_done g w (e.CrashIn keep x) inner over is d = absurd (none_some is)
