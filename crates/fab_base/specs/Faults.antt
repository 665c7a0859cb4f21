-- Counts of faults, and objects in memory of which some calls fail.
use Rattle.std.specs.Prelude.{IsTrue, ℕ, ◌+◌, ◌-◌, ◌^◌, ◌≤◌, min, Bool, List, Result, OnErr, if◌then◌else◌}

-- a count is greater after a call than before, or stands at its type's end
abbrev pub Rose : ℕ → ℕ → Type 0
Rose before now = min (before + 1) (2 ^ 64 - 1) ≤ now

-- the count never falls, and a failure raises it
pub record HasCause {T E : Type 0} (before now : ℕ) (result : Result T E) : Type 0 where
  pub later : before ≤ now
  pub failed : OnErr result (Rose before now)

-- the count never falls, and rises where the call failed
pub record CountsFault (failed : Bool) (before now : ℕ) : Type 0 where
  pub later : before ≤ now
  pub raised : IsTrue failed → Rose before now

-- The calls of an object in memory: how many were made, which of them fail, counted from 1, and how many failed.
pub record Calls : Type 0 where
  pub made : ℕ
  pub fails : List ℕ
  pub faults : ℕ

-- before any call
abbrev pub opening_calls : List ℕ → Calls
opening_calls fails = record { made = 0; fails = fails; faults = 0 }

-- the number of the call that comes next; numbers stay at the last one
abbrev pub next_call : Calls → ℕ
next_call c = min (c.made + 1) (2 ^ 32 - 1)

-- after a call that failed, or didn't
abbrev pub after_call : Bool → Calls → Calls
after_call failed c = record { made = next_call c; fails = c.fails; faults = if failed then min (c.faults + 1) (2 ^ 64 - 1) else c.faults }

-- What an object in memory holds, and its calls.
pub record Medium : Type 0 where
  pub content : List ℕ
  pub calls : Calls
