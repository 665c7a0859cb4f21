-- What the worked examples stand on: two objects, and states over them.
use Rattle.std.proofs.Common.{ℕ, ℤ, pos, List, [], ◌∷◌}
use Rattle.fab_base.specs.declared.object.Oid.{Oid}
use Rattle.fab_base.specs.declared.object.Object.{Object}
use Rattle.fab_base.specs.declared.object.Tid.{Tid}
use Rattle.fab_base.specs.declared.object.Value.{Value}
use Rattle.fab_base.specs.declared.object.Value.TheVariants.{Int}
use Rattle.fab_base.specs.FlatMap.{FlatMap}
use Rattle.fab_tree.specs.declared.resolved.Use.{Use}
use Rattle.fab_language.specs.Meaning.{State, Run, M}

abbrev pub root : ℕ → Oid
root n = record { store = 0; class = 0; worker = 65535; boot = 0; number = n; site = 65535; index = 0 }

abbrev pub holding : ℤ → Object
holding n = record { class = 0; fields = Int n ∷ [] }

abbrev pub two_roots : FlatMap
two_roots = (root 1, holding (pos 7)) ∷ (root 2, holding (pos 8)) ∷ []

-- a state with these locals, over the two objects
abbrev pub state : List Value → State
state locals = record { fuel = 9; locals = locals; heap = record { rows = two_roots; written = []; made = [] }; touches = []; downs = []; given = [] }

-- the same with this fuel
abbrev pub at : ℕ → List Value → State
at fuel locals = record (state locals) { fuel = fuel }

-- what a run does from a fuel and locals on
abbrev pub from : {A : Type 0} → ℕ → List Value → M A → Run A
from fuel locals m = m (at fuel locals)

abbrev pub with_touches : List (ℕ × Oid) → State → State
with_touches touches t = record t { touches = touches }

abbrev pub int : ℤ → Value
int n = Int n

abbrev pub used : ℕ → Use
used n = record { number = n; at = 0 }

-- the attempt 1.7 of worker 3
abbrev pub tid : Tid
tid = record { worker = 3; boot = 1; number = 7 }
