-- What a call of the evaluator gave, beside the meaning.
use Rattle.std.specs.Prelude.{◌≡◌, ℕ, Result, Ok, Err}
use Rattle.fab_language.specs.Meaning as m
use Rattle.fab_language.specs.Meaning.{Run, goes, ends}
use Rattle.fab_nested.specs.declared.frame_error.FrameError.{FrameError}
use Rattle.fab_nested.specs.declared.frame_error.FrameError.TheVariants as errors
use Rattle.fab_stack.specs.declared.halt.End.{End}
use Rattle.fab_stack.specs.declared.halt.End.TheVariants.{Failed, Stopped, Missing}
use Rattle.fab_stack.specs.declared.halt.Halt.{Halt}
use Rattle.fab_stack.specs.declared.halt.Halt.TheVariants.{Memory, Ended}
use Rattle.fab_stack.specs.Points.{Point}

abbrev pub end_of : End → m.End
end_of Failed = m.failed
end_of (Stopped stop) = m.stopped stop
end_of (Missing site o) = m.missing site o

-- A call gave what this run does: its value and the state behind it, or its end and the state at it. Want of memory may come at any point.
abbrev pub Gives : {A : Type 0} → Result A Halt → Point → Run A → Type 0
Gives (Ok a) now run = run ≡ goes a now.state
Gives (Err Memory) now run = Unit {0}
Gives (Err (Ended e)) now run = run ≡ ends (end_of e) now.state

-- how an evaluation ends where frames don't give what is asked for at a site
abbrev pub halt_at : ℕ → FrameError → Halt
halt_at site errors.Memory = Memory
halt_at site (errors.Need o) = Ended (Missing site o)
halt_at site (errors.Full stop) = Ended (Stopped stop)
