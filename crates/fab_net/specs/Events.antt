-- The nodes that events are of, and an event that isn't cut.
use Rattle.std.specs.Prelude.{ℕ}
use Rattle.fab_net.specs.declared.event.Event.{Event}
use Rattle.fab_net.specs.declared.event.Event.TheVariants as e
use Rattle.fab_net.specs.declared.event.Inner.{Inner}
use Rattle.fab_net.specs.declared.event.Inner.TheVariants as i

-- the node that takes part
abbrev pub node_of : Inner → ℕ
node_of (i.Begin n) = n
node_of (i.Resume n) = n
node_of (i.Deliver a b) = b
node_of (i.Idle n s) = n
node_of (i.Recover n) = n

-- the event of it that isn't cut
abbrev pub uncut : Inner → Event
uncut (i.Begin n) = e.Begin n
uncut (i.Resume n) = e.Resume n
uncut (i.Deliver a b) = e.Deliver a b
uncut (i.Idle n s) = e.Idle n s
uncut (i.Recover n) = e.Recover n

-- the node that an event is of
abbrev pub node_at : Event → ℕ
node_at (e.Begin n) = n
node_at (e.Resume n) = n
node_at (e.Deliver a b) = b
node_at (e.Idle n s) = n
node_at (e.Recover n) = n
node_at (e.CrashIn keep inner) = node_of inner
node_at (e.Post h) = h
node_at (e.Crash n) = n
