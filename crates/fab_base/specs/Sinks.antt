-- What a call does to a sink, and when it may fail.
use Rattle.std.specs.Prelude.{◌≡◌, ℕ, ◌<◌, ◌≤◌, List, length, take, Option, Result, Ok, Err}
use Rattle.std.specs.Io.KnownBytes.{Keeps, Appends}
use Rattle.fab_base.specs.Faults.{Rose}
use Rattle.fab_base.specs.declared.outside.traits.SinkError.{SinkError}
use Rattle.fab_base.specs.declared.outside.traits.SinkError.TheVariants.{Failed, Memory}

-- `Ok` took that many bytes of the piece, a failure some front of it, and want of memory none
abbrev pub SinkTakes : Option (List ℕ) → Option (List ℕ) → Result ℕ SinkError → List ℕ → Type 0
SinkTakes old new (Ok n) piece = Appends old new (take n piece)
SinkTakes old new (Err Failed) piece = (n : ℕ) × Appends old new (take n piece)
SinkTakes old new (Err Memory) piece = Keeps old new

-- a call failed, or took nothing of a piece that isn't empty; want of memory is no fault
abbrev pub IsFault : Result ℕ SinkError → List ℕ → Type 0
IsFault (Ok n) piece = (n ≡ 0) × (0 < length piece)
IsFault (Err Failed) piece = Unit {0}
IsFault (Err Memory) piece = ⊥

-- the count never falls, a fault raises it, and nothing else does
pub record SinkCause (before now : ℕ) (result : Result ℕ SinkError) (piece : List ℕ) : Type 0 where
  pub later : before ≤ now
  pub failed : IsFault result piece → Rose before now
  pub unfailed : (IsFault result piece → ⊥) → now ≡ before
