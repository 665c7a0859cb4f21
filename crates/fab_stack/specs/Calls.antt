-- What a call of a method comes to, in code.
use Rattle.std.specs.Prelude.{◌≡◌, ℕ, suc, List, None}
use Rattle.fab_base.specs.declared.object.Value.{Value}
use Rattle.fab_base.specs.declared.object.Stop.TheVariants.{Depth}
use Rattle.fab_tree.specs.declared.resolved.Method.{Method}
use Rattle.fab_language.specs.Meaning.{State, goes, ends, stopped}
use Rattle.fab_left.specs.Left.{Means}
use Rattle.fab_left.specs.Deeds.{Enters}
use Rattle.fab_stack.specs.declared.stack.Call.{Call}
use Rattle.fab_stack.specs.declared.stack.Call.TheVariants.{Runs, Skipped, Absent}
use Rattle.fab_stack.specs.Stacks.{place}

-- where no call more may be open, a call is stopped
abbrev pub IsStopped : Means → Method → ℕ → List Value → Type 0
IsStopped m caller number args = (t : State) → m.call (place caller 0) number args t ≡ ends (stopped Depth) t

-- what a call of a method of a number comes to, from each place of its caller: where calls more may be open, a method is entered
-- one call deeper over these locals, or the call gives nothing; a method that is skipped gives this wherever it is called
abbrev pub Calls : Means → Method → ℕ → List Value → Call → Type 0
Calls m caller number args (Runs callee locals) =
    IsStopped m caller number args × ((depth : ℕ) (t : State) → Enters m (place caller (suc depth)) number args t (place callee.now depth) locals.items)
Calls m caller number args (Skipped v) = (depth : ℕ) (t : State) → m.call (place caller depth) number args t ≡ goes v t
Calls m caller number args Absent = IsStopped m caller number args × ((depth : ℕ) (t : State) → m.call (place caller (suc depth)) number args t ≡ goes None t)
