-- One step of what is left, whatever the parts of a program mean.
use Rattle.std.specs.Prelude.{◌≡◌, ℕ, List, Option, map}
use Rattle.fab_base.specs.declared.object.Oid.{Oid}
use Rattle.fab_base.specs.declared.object.Tid.{Tid}
use Rattle.fab_base.specs.declared.object.Value.{Value}
use Rattle.fab_base.specs.FlatMap.{FlatMap}
use Rattle.fab_tree.specs.declared.resolved.Statement.{Statement}
use Rattle.fab_language.specs.Meaning.{State, End, missing, Run, ends, M, and_then}
use Rattle.fab_laws.specs.Runs.{state_behind}
use Rattle.fab_left.specs.Left.{Place, Means, Entry, finish, whole, wider, wider_entry, widened, IsSure, Fresh, Stems, DiffersLittle, left}
use Rattle.fab_left.specs.Deeds.{Deed, afterwards}

-- what is done at a place goes over more objects as over what is known, and leaves no new objects; where it lacks an object, the
-- state differs in fuel and touches alone
pub record Carries {A : Type 0} (tid : Tid) (m : M A) : Type 0 where
  pub over : (known : FlatMap) (t : State) (more : FlatMap) → Stems tid known t.heap.rows → Fresh tid known more → IsSure (m t)
      → m (wider more t) ≡ widened more (m t)
  pub stems : (known : FlatMap) (t : State) → Stems tid known t.heap.rows → Stems tid known (state_behind (m t)).heap.rows
  pub misses : (t : State) (site : ℕ) (o : Oid) (u : State) → m t ≡ ends (missing site o) u → DiffersLittle t u

-- each statement is what it does at once, and then what that leads into; and all that is done at once carries over
pub record IsSplit (m : Means) (tid : Tid) (does : Place → Statement → M Deed) : Type 0 where
  pub leads_on : (p : Place) (s : Statement) (t : State) → m.statement p s t ≡ and_then (does p s t) (afterwards m p s)
  pub acts : (p : Place) (s : Statement) → Carries tid (does p s)
  pub results : (p : Place) → Carries tid (m.result p)
  pub takes : (p : Place) (x : ℕ) (v : Value) → Carries tid (m.takes p x v)

-- what comes of a run that ended so, with what is left to do, over more objects
abbrev pub ended : Means → Place → List Entry → End → State → FlatMap → Run (Option Value)
ended m p ks e t more = whole m p (finish m (map (wider_entry more) ks) (ends e (wider more t)))

-- over whatever more objects that are new, the same comes of this as of that run that ended
abbrev pub EndsSo : Means → Place → Tid → FlatMap → List Entry → End → State → List Entry → State → Type 0
EndsSo m p tid known ks e t js s = (more : FlatMap) → Fresh tid known more → left m p js s more ≡ ended m p ks e t more
