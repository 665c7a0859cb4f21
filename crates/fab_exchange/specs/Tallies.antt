-- What an event adds to the counts of its node.
use Rattle.std.specs.Prelude.{Bool, true, false}
use Rattle.fab_net.specs.declared.event.Event.{Event}
use Rattle.fab_net.specs.declared.event.Event.TheVariants as e
use Rattle.fab_world.specs.Crashing.{counts}
use Rattle.fab_core.specs.declared.applied.Applied.{Applied}
use Rattle.fab_core.specs.declared.applied.Applied.TheVariants as a

-- lines count it, whether it is done, cut or failed
abbrev pub counted_in : Event → Bool
counted_in (e.Begin n) = true
counted_in (e.Resume n) = true
counted_in (e.Deliver a b) = true
counted_in (e.Idle n s) = true
counted_in (e.Recover n) = false
counted_in (e.CrashIn keep inner) = counts inner
counted_in (e.Post h) = false
counted_in (e.Crash n) = false

-- a line made it
abbrev pub crashed_in : Event → Applied → Bool
crashed_in (e.CrashIn keep inner) a.Whole = true
crashed_in (e.Crash n) a.Whole = true
crashed_in _ _ = false
