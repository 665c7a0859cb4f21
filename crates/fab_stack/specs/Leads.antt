-- What a statement leads into, in code.
use Rattle.std.specs.Prelude.{◌≡◌, ℕ, ◌<◌, Result, Ok, Err}
use Rattle.fab_language.specs.Meaning.{Run, goes, ends}
use Rattle.fab_left.specs.Deeds.{Deed, passed, into, again, trying, entering}
use Rattle.fab_stack.specs.declared.stack.Lead.{Lead}
use Rattle.fab_stack.specs.declared.stack.Lead.TheVariants as leads
use Rattle.fab_stack.specs.declared.halt.End.TheVariants.{Failed, Stopped, Missing}
use Rattle.fab_stack.specs.declared.halt.Halt.{Halt}
use Rattle.fab_stack.specs.declared.halt.Halt.TheVariants.{Memory, Ended}
use Rattle.fab_stack.specs.Gives.{end_of}
use Rattle.fab_stack.specs.Points.{Point}

abbrev pub deed_of : Lead → Deed
deed_of leads.Passed = passed
deed_of (leads.Into a) = into a.now
deed_of (leads.Again a) = again a.now
deed_of (leads.Try a b) = trying a.now b.now
deed_of (leads.Enter number args target) = entering number args target

-- a call gave what this run does: what it leads into and the state behind it, or its end and the state at it
abbrev pub Leads : Result Lead Halt → Point → Run Deed → Type 0
Leads (Ok a) now run = run ≡ goes (deed_of a) now.state
Leads (Err Memory) now run = Unit {0}
Leads (Err (Ended e)) now run = run ≡ ends (end_of e) now.state

-- whoever goes on or fails has paid
abbrev pub Lowers : {A : Type 0} → Result A Halt → ℕ → ℕ → Type 0
Lowers (Ok a) old new = new < old
Lowers (Err Memory) old new = Unit {0}
Lowers (Err (Ended Failed)) old new = new < old
Lowers (Err (Ended (Stopped stop))) old new = Unit {0}
Lowers (Err (Ended (Missing site o))) old new = Unit {0}
