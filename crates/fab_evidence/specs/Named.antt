-- Which node of a bundle a name is, and which event a line tells.
use Rattle.std.specs.Prelude.{ℕ, List, Option, Some, None, find}
use Rattle.std.specs.Option.{option_map, option_and_then}
use Rattle.std.specs.Str.{bytes_eq}
use Rattle.fab_tree.specs.declared.resolved.Resolved.{Resolved}
use Rattle.fab_net.specs.declared.event.Event.{Event}
use Rattle.fab_net.specs.declared.event.Event.TheVariants as ne
use Rattle.fab_net.specs.declared.event.Inner.{Inner}
use Rattle.fab_net.specs.declared.event.Inner.TheVariants as ni
use Rattle.fab_net.specs.Events.{uncut}
use Rattle.fab_reports.specs.declared.line.ShownInner.{ShownInner}
use Rattle.fab_reports.specs.declared.line.ShownInner.TheVariants as i
use Rattle.fab_reports.specs.declared.line.ShownEvent.{ShownEvent}
use Rattle.fab_reports.specs.declared.line.ShownEvent.TheVariants as e

-- the number of the worker or store of this name, if there is one
abbrev pub node_named : Resolved → List ℕ → Option ℕ
node_named r text = option_and_then (λ x. x.node) (find (λ x. bytes_eq x.name.text text) r.nodes)

-- what f makes of the numbers of two names
abbrev pub with_both : {A : Type 0} → (ℕ → ℕ → A) → Option ℕ → Option ℕ → Option A
with_both f (Some m) (Some n) = Some (f m n)
with_both f _ _ = None

abbrev pub named_inner : Resolved → ShownInner → Option Inner
named_inner r (i.Begin worker) = option_map (λ n. ni.Begin n) (node_named r worker)
named_inner r (i.Resume worker) = option_map (λ n. ni.Resume n) (node_named r worker)
named_inner r (i.Deliver sender receiver bytes) = with_both (λ m n. ni.Deliver m n) (node_named r sender) (node_named r receiver)
named_inner r (i.Idle worker node) = with_both (λ m n. ni.Idle m n) (node_named r worker) (node_named r node)
named_inner r (i.Recover node) = option_map (λ n. ni.Recover n) (node_named r node)

-- The event that a line tells, if its names are nodes'. Of a post the sender alone counts, since what is posted next, and to whom, the bundle says.
abbrev pub named_event : Resolved → ShownEvent → Option Event
named_event r (e.Inner event) = option_map uncut (named_inner r event)
named_event r (e.Post sender receiver bytes) = option_map (λ n. ne.Post n) (node_named r sender)
named_event r (e.Crash node) = option_map (λ n. ne.Crash n) (node_named r node)
named_event r (e.CrashIn keep event) = option_map (λ inner. ne.CrashIn keep inner) (named_inner r event)

-- the name of the node that an event is of
abbrev pub name_in : ShownInner → List ℕ
name_in (i.Begin worker) = worker
name_in (i.Resume worker) = worker
name_in (i.Deliver sender receiver bytes) = receiver
name_in (i.Idle worker node) = worker
name_in (i.Recover node) = node

abbrev pub name_at : ShownEvent → List ℕ
name_at (e.Inner event) = name_in event
name_at (e.Post sender receiver bytes) = sender
name_at (e.Crash node) = node
name_at (e.CrashIn keep event) = name_in event
