-- What a call on the frames gave, beside what it is to do.
use Rattle.std.specs.Prelude.{◌≡◌, Result, Ok, Err}
use Rattle.fab_nested.specs.Nested.{Nested, Call, gives, needs, stops}
use Rattle.fab_nested.specs.declared.frame_error.FrameError.{FrameError}
use Rattle.fab_nested.specs.declared.frame_error.FrameError.TheVariants.{Memory, Need, Full}

-- A call gave what this call does, and left what it leaves: its value, the object that it needs, or the limit that
-- stops it. Want of memory may come at any point, and changes nothing.
abbrev pub Gives : {A : Type 0} → Result A FrameError → Nested → Nested → Call A → Type 0
Gives (Ok a) old new call = call ≡ gives a new
Gives (Err Memory) old new call = new ≡ old
Gives (Err (Need o)) old new call = call ≡ needs o new
Gives (Err (Full stop)) old new call = call ≡ stops stop new
