-- What the calls of a journal do to what it holds, and when they may fail.
use Rattle.std.specs.Prelude.{◌≡◌, ◌↔◌, ◌⊎◌, ◌<◌, ◌≤◌, ℕ, Bool, true, false, IsTrue, List, ◌++◌, length, take, Result, Ok, Err, IsOk, IsErr, IsErrOf, Contains, min, ◌==◌, ◌&&◌}
use Rattle.fab_base.specs.Faults.{Rose, Calls, next_call, after_call}
use Rattle.fab_device.specs.declared.traits.JournalError.{JournalError}
use Rattle.fab_device.specs.declared.traits.JournalError.TheVariants.{Failed, Memory}

-- `Ok` added the bytes, a failure some front of them, and want of memory nothing
abbrev pub AppendAdds : {T : Type 0} → List ℕ → List ℕ → Result T JournalError → List ℕ → Type 0
AppendAdds old new (Ok _) bytes = new ≡ old ++ bytes
AppendAdds old new (Err Failed) bytes = (n : ℕ) × (new ≡ old ++ take n bytes)
AppendAdds old new (Err Memory) bytes = new ≡ old

-- a front of the old bytes, and at least so many of them
pub record IsFrontFrom (keep : ℕ) (old new : List ℕ) : Type 0 where
  pub longer : keep ≤ length new
  pub front : take (length new) old ≡ new

-- a crash may leave this of a journal that holds so much: a front of it with all synced bytes
abbrev pub MayLeave : List ℕ → ℕ → List ℕ → Type 0
MayLeave content synced left = IsFrontFrom synced content left

-- the count never falls, a failure raises it, and nothing else does
pub record JournalCause {T : Type 0} (before now : ℕ) (result : Result T JournalError) : Type 0 where
  pub later : before ≤ now
  pub failed : IsErrOf result Failed → Rose before now
  pub memory : IsErrOf result Memory → now ≡ before
  pub success : IsOk result → now ≡ before

-- a call of a journal that has failed before doesn't work, and what it holds stays
pub record StaysStopped {T E : Type 0} (faults : ℕ) (old new : List ℕ) (result : Result T E) : Type 0 where
  pub fails : 0 < faults → IsErr result
  pub same : 0 < faults → new ≡ old

-- a call keeps whether the journal is sure, and at one that is sure it doesn't fail
pub record KeepsSure (before now : Bool) (Fails : Type 0) : Type 0 where
  pub kept : now ≡ before
  pub never : IsTrue before → Fails → ⊥

-- What a journal in memory holds, how many of its bytes are synced, and for how many more it has room.
pub record Held : Type 0 where
  pub content : List ℕ
  pub synced : ℕ
  pub room : ℕ

-- The same, with the calls, of which some fail.
pub record HeldWithCalls : Type 0 where
  pub held : Held
  pub calls : Calls

-- how many bytes are synced, at most all
abbrev pub synced_of : Held → ℕ
synced_of held = min held.synced (length held.content)

-- no call is listed, and none has failed
abbrev pub never_fails : Calls → Bool
never_fails calls = (length calls.fails == 0) && (calls.faults == 0)

-- the call that comes next is listed, or one before it has failed
abbrev pub FailsNext : Calls → Type 0
FailsNext calls = (0 < calls.faults) ⊎ Contains calls.fails (next_call calls)

-- a call that is counted: it fails exactly where it is listed or one before it has failed, and then it changes nothing of what is held; only a
-- failure counts as a fault
pub record CountsCall (old new : HeldWithCalls) (Fails : Type 0) : Type 0 where
  pub listed : Fails ↔ FailsNext old.calls
  pub nothing : Fails → new.held ≡ old.held
  pub made : new.calls.made ≡ next_call old.calls
  pub list : new.calls.fails ≡ old.calls.fails
  pub failed : Fails → new.calls ≡ after_call true old.calls
  pub unfailed : (Fails → ⊥) → new.calls ≡ after_call false old.calls
