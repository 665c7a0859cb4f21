-- What one step does with what is left to do, and what all steps do.
use Rattle.std.specs.Prelude.{◌≡◌, ℕ, ◌+◌, ◌*◌, ◌<◌, Bool, true, false, List, [], ◌∷◌, ◌++◌, length, take, Option, Some, None, Result, Ok, Err}
use Rattle.std.specs.declared.alloc.AllocError.{AllocError}
use Rattle.fab_base.specs.declared.object.Oid.{Oid}
use Rattle.fab_base.specs.declared.object.Tid.{Tid}
use Rattle.fab_base.specs.FlatMap.{FlatMap}
use Rattle.fab_language.specs.Heaps.{touched}
use Rattle.fab_language.specs.Meaning.{State, failed, stopped, missing, goes, ends}
use Rattle.fab_left.specs.Left as left
use Rattle.fab_left.specs.Left.{Means, Place, left, IsLeft, AllStem, DiffersLittle, before}
use Rattle.fab_left.specs.Steps.{EndsSo, ended}
use Rattle.fab_stack.specs.declared.halt.End.TheVariants.{Failed, Stopped, Missing}
use Rattle.fab_stack.specs.declared.stack.Entry.{Entry}
use Rattle.fab_stack.specs.declared.stack.Hand.{Hand}
use Rattle.fab_stack.specs.declared.stepping.Fall.{Fall}
use Rattle.fab_stack.specs.declared.stepping.Fall.TheVariants as falls
use Rattle.fab_stack.specs.declared.stepping.Way.{Way}
use Rattle.fab_stack.specs.declared.stepping.Way.TheVariants.{Over, Lacks}
use Rattle.fab_stack.specs.Points.{Base, Point}
use Rattle.fab_stack.specs.Stacks.{in_hand, trials}

-- this holds, but where memory was wanted
abbrev pub UnlessMemory : {A : Type 0} → Result A Fall → Type 0 → Type 0
UnlessMemory (Ok a) holds = holds
UnlessMemory (Err falls.Memory) holds = Unit {0}
UnlessMemory (Err falls.Failed) holds = holds
UnlessMemory (Err (falls.Ended way)) holds = holds

-- whoever goes on or fails has less to do
abbrev pub Shortens : {A : Type 0} → Result A Fall → ℕ → ℕ → Type 0
Shortens (Ok a) old new = new < old
Shortens (Err falls.Memory) old new = Unit {0}
Shortens (Err falls.Failed) old new = new < old
Shortens (Err (falls.Ended way)) old new = Unit {0}

-- the attempt and the versions of its answers stay
pub record IsSameAttempt (new old : Base) : Type 0 where
  pub tid : new.tid ≡ old.tid
  pub versions : new.versions ≡ old.versions

-- a heap is saved for each block that is tried
abbrev pub IsMatched : List Entry → Point → Type 0
IsMatched items p = trials items ≡ length p.base.saved

-- what the steps that are left are bounded by
abbrev pub bound : List Entry → Point → ℕ
bound items p = 4 * p.state.fuel + length items

-- ---- one step

-- the same is left as before
pub record GoesOn (m : Means) (first : Place) (tid : Tid) (known : FlatMap) (js : List left.Entry) (s : State) (ks : List left.Entry) (t : State) : Type 0 where
  pub same : IsLeft m first tid known ks t js s
  pub stem : AllStem tid known ks t

-- what was left comes to a failure behind these entries
pub record FailsSo (m : Means) (first : Place) (tid : Tid) (known : FlatMap) (js : List left.Entry) (s : State) (ks : List left.Entry) (t : State) : Type 0 where
  pub same : EndsSo m first tid known ks failed t js s
  pub stem : AllStem tid known ks t

-- what was left lacks an object, and stands as it was
pub record LacksSo (m : Means) (first : Place) (site : ℕ) (o : Oid) (js : List left.Entry) (s : State) (ks : List left.Entry) (t : State) : Type 0 where
  pub lacks : left m first js s [] ≡ ends (missing site o) (record t { locals = [] })
  pub same : ks ≡ js
  pub waits : DiffersLittle s t

-- a failure goes on at the last block that is tried, or is all that comes of it
abbrev pub Unwinds : Means → Place → Tid → FlatMap → Result Bool AllocError → List left.Entry → State → List left.Entry → State → Type 0
Unwinds m first tid known (Ok true) js s ks t = ((more : FlatMap) → ended m first js failed s more ≡ left m first ks t more) × AllStem tid known ks t
Unwinds m first tid known (Ok false) js s ks t = (more : FlatMap) → ended m first js failed s more ≡ ended m first [] failed t more
Unwinds m first tid known (Err e) js s ks t = Unit {0}

-- ---- how a run ends

-- All is over. Or an object lacks, and the state before what lacks it and what is left there come back by its fuel and the
-- number of its touches, which were of so many objects.
abbrev pub Runs : Means → Place → Tid → FlatMap → Way → List left.Entry → State → List left.Entry → State → Type 0
Runs m first tid known (Over (Ok v)) js s ks t = left m first js s [] ≡ goes v (record t { locals = [] })
Runs m first tid known (Over (Err Failed)) js s ks t = left m first js s [] ≡ ends failed (record t { locals = [] })
Runs m first tid known (Over (Err (Stopped stop))) js s ks t = left m first js s [] ≡ ends (stopped stop) (record t { locals = [] })
Runs m first tid known (Over (Err (Missing site o))) js s ks t = ⊥
Runs m first tid known (Lacks site o fuel pairs objects) js s ks t =
    (left m first js s [] ≡ ends (missing site o) (record t { locals = [] })) × GoesOn m first tid known js s ks (before fuel pairs t)
    × (objects ≡ length (touched (take pairs t.touches)))

-- what comes of what is left where a step doesn't go on
abbrev pub Falls : Means → Place → Tid → FlatMap → Fall → List left.Entry → State → List left.Entry → State → Type 0
Falls m first tid known falls.Memory js s ks t = Unit {0}
Falls m first tid known falls.Failed js s ks t = FailsSo m first tid known js s ks t
Falls m first tid known (falls.Ended way) js s ks t = Runs m first tid known way js s ks t

-- what a step makes of what is left
abbrev pub Steps : Means → Place → Tid → FlatMap → Result (Unit {0}) Fall → List left.Entry → State → List left.Entry → State → Type 0
Steps m first tid known (Ok u) js s ks t = GoesOn m first tid known js s ks t
Steps m first tid known (Err fall) js s ks t = Falls m first tid known fall js s ks t

-- the same of one that leaves the rest of a block in hand
abbrev pub Strides : Means → Place → Tid → FlatMap → Result Hand Fall → List left.Entry → State → List left.Entry → State → Type 0
Strides m first tid known (Ok hand) js s ks t = GoesOn m first tid known js s (ks ++ in_hand hand ∷ []) t
Strides m first tid known (Err fall) js s ks t = Falls m first tid known fall js s ks t

-- the same of a step and what comes of its failure: there is one more, or the run is over
abbrev pub Turns : Means → Place → Tid → FlatMap → Option Way → List left.Entry → State → List left.Entry → State → Type 0
Turns m first tid known None js s ks t = GoesOn m first tid known js s ks t
Turns m first tid known (Some way) js s ks t = Runs m first tid known way js s ks t
