-- The meaning, statement by statement: what each does at once.
use Rattle.std.specs.Prelude.{ℕ, Option, Some, None, if◌then◌else◌}
use Rattle.fab_base.specs.declared.object.Tid.{Tid}
use Rattle.fab_base.specs.declared.object.Value.{Value}
use Rattle.fab_base.specs.FlatMap.{FlatMap}
use Rattle.fab_tree.specs.declared.resolved.Right.{Right}
use Rattle.fab_tree.specs.declared.resolved.Right.TheVariants as rights
use Rattle.fab_tree.specs.declared.resolved.Statement.{Statement, out-Statement}
use Rattle.fab_tree.specs.declared.resolved.Statement.TheOpen as s
use Rattle.fab_tree.specs.declared.resolved.Resolved.{Resolved}
use Rattle.fab_tree.specs.declared.resolved.Request.{Request}
use Rattle.fab_language.specs.Meaning.{Run, M, failed, ends, gives, ◌>>=◌, ◌>>◌, charge, local, assign, write, create, noted_down, holds, value, values, statement}
use Rattle.fab_language.specs.Meaning.{returned, called, requested, state_at_start}
use Rattle.fab_left.specs.Left.{Means}
use Rattle.fab_left.specs.Deeds.{Deed, passed, into, again, trying, entering}

-- what the parts of a program mean, over the attempt
abbrev pub meanings : Resolved → Tid → Means
meanings program tid = record {
  statement = λ p. statement tid (called program tid p.depth);
  result = λ p. returned p.method.result;
  takes = λ p. assign;
  call = λ p. called program tid p.depth;
}

-- a local takes a value
abbrev pub taken : ℕ → Value → M Deed
taken x v = assign x v >> gives passed

-- what is assigned to a local, or the call that gives it
abbrev pub right_act : Tid → ℕ → Right → M Deed
right_act tid x (rights.Plain e) = value e >>= taken x
right_act tid x (rights.Call m args) = values args >>= λ vs. gives (entering m.number vs (Some x))
right_act tid x (rights.New class store args site at) = values args >>= λ vs. create tid store.number class.number site vs >>= taken x
right_act tid x (rights.Downgrade downgrade e from to site at) = value e >>= noted_down site >>= taken x

abbrev pub work : Tid → s.Statement-F Statement → M Deed
work tid (s.Assign x r at) = right_act tid x r
work tid (s.Write x field e site) = do
  v ← value e
  o ← local x.number
  write site field v o
  gives passed
work tid (s.Call m args) = values args >>= λ vs. gives (entering m.number vs None)
work tid (s.If e a b) = value e >>= λ v. gives (into (if holds v then a else b))
work tid (s.While e a) = value e >>= λ v. gives (if holds v then again a else passed)
work tid (s.Atomic label a b at) = gives (trying a b)
work tid (s.Fail at) = ends failed

-- a statement costs 1
abbrev pub act : Tid → Statement → M Deed
act tid s = charge >> work tid (out-Statement s)

-- what a request does over a map, with so much fuel
abbrev pub asked : Resolved → Tid → Request → ℕ → FlatMap → Run (Option Value)
asked program tid request fuel known = requested program tid request (state_at_start known fuel)
