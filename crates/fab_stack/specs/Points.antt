-- What an evaluation has at a point, as contracts see it.
use Rattle.std.specs.Prelude.{◌≡◌, ℕ, false, List, [], ◌∷◌, ◌++◌, map, None}
use Rattle.fab_base.specs.declared.object.Object.{Object}
use Rattle.fab_base.specs.declared.object.Oid.{Oid}
use Rattle.fab_base.specs.declared.object.Tid.{Tid}
use Rattle.fab_base.specs.declared.object.Value.{Value}
use Rattle.fab_base.specs.FlatMap.{FlatMap, get, map_of}
use Rattle.fab_language.specs.Heaps.{Heap}
use Rattle.fab_language.specs.Meaning.{State, state_at_start}
use Rattle.fab_left.specs.Left.{before, wider, with_more}
use Rattle.fab_nested.specs.Nested.{Answers, objects_of, versions_of}
use Rattle.fab_stack.specs.Attempts.{is_made_in}

-- what stays through each step that goes on or fails: the attempt, the versions of the answers, and the heaps that are saved, the last one first
pub record Base : Type 0 where
  pub tid : Tid
  pub versions : List (Oid × ℕ)
  pub saved : List Heap

-- the state that the meaning has, over what stays
pub record Point : Type 0 where
  pub state : State
  pub base : Base

-- where a request begins, with so much fuel
abbrev pub point_at_start : Tid → ℕ → Answers → Point
point_at_start tid fuel answers = record {
  state = state_at_start (map_of (objects_of answers)) fuel;
  base = record { tid = tid; versions = versions_of answers; saved = [] };
}

-- the same over what is known, of which nothing has a version, with these given values
abbrev pub point_over : Tid → ℕ → FlatMap → List Value → Point
point_over tid fuel known given = record {
  state = record (state_at_start known fuel) { given = given };
  base = record { tid = tid; versions = []; saved = [] };
}

-- the same point with other locals
abbrev pub with_locals : List Value → Point → Point
with_locals locals p = record p { state = record p.state { locals = locals } }

-- ---- heaps are saved

abbrev pub with_saved : List Heap → Base → Base
with_saved heaps b = record b { saved = heaps }

-- the heap that was saved last, if there is one
abbrev pub top_of : List Heap → Heap → Heap
top_of [] h = h
top_of (g ∷ heaps) h = g

-- those that were saved before it
abbrev pub under : List Heap → List Heap
under [] = []
under (g ∷ heaps) = heaps

-- the heap is saved
abbrev pub saving : Point → Point
saving p = record p { base = with_saved (p.state.heap ∷ p.base.saved) p.base }

-- the heap that was saved last is given up
abbrev pub merged : Point → Point
merged p = record p { base = with_saved (under p.base.saved) p.base }

-- the heap is again the one that was saved last; touches stay
abbrev pub aborted : Point → Point
aborted p = record {
  state = record p.state { heap = top_of p.base.saved p.state.heap };
  base = with_saved (under p.base.saved) p.base;
}

-- ---- an object is answered

-- one answer more: its object is in the heap and in each heap that is saved, and its version behind the others
abbrev pub with_answer : Oid → ℕ → Object → Point → Point
with_answer o version x p = record {
  state = wider ((o, x) ∷ []) p.state;
  base = record { tid = p.base.tid; versions = p.base.versions ++ (o, version) ∷ []; saved = map (with_more ((o, x) ∷ [])) p.base.saved };
}

-- an object of this name isn't in the heap, and isn't one of the attempt's
pub record Lacks (o : Oid) (p : Point) : Type 0 where
  pub absent : get p.state.heap.rows o ≡ None
  pub unmade : is_made_in p.base.tid o ≡ false

-- the point before what lacked an object
abbrev pub point_before : ℕ → ℕ → Point → Point
point_before fuel count p = record p { state = before fuel count p.state }
