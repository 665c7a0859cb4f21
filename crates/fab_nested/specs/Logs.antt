-- A log of the changes of a heap, by which earlier heaps are had again. The heaps here have the changed objects alone.
use Rattle.std.specs.Prelude.{◌≡◌, ℕ, ◌-◌, ◌≤◌, true, List, [], ◌∷◌, ◌++◌, length, map, reverse, take, drop, Option, Some, None, is_some, if◌then◌else◌}
use Rattle.fab_base.specs.declared.object.Oid.{Oid}
use Rattle.fab_base.specs.declared.object.Object.{Object}
use Rattle.fab_base.specs.FlatMap.{FlatMap, get, put, ascends}
use Rattle.fab_language.specs.Heaps.{Heap, is_changed, changed}
use Rattle.fab_map.specs.Changes.{put_field, removed}
use Rattle.fab_nested.specs.declared.log.Change.{Change}
use Rattle.fab_nested.specs.declared.log.Change.TheVariants.{Wrote, Joined, Made, Remade}
use Rattle.fab_nested.specs.declared.objects.Objects.{Objects}

-- the objects that were changed, as a heap
abbrev pub heap_of : Objects → Heap
heap_of objects = record { rows = objects.changed; written = objects.written; made = objects.made }

-- all names but the last
abbrev pub but_last : List Oid → List Oid
but_last os = take (length os - 1) os

-- where there is an object of this name, this one takes its place
abbrev pub put_again : Oid → Object → FlatMap → FlatMap
put_again o x rows = if is_some (get rows o) then put o x rows else rows

-- The heap before a change: a field held another value; an object wasn't written yet, and so not changed; it wasn't made; or it
-- was another one, and not made.
abbrev pub before : Change → Heap → Heap
before (Wrote o field old) h = record h { rows = put_field o field old h.rows }
before (Joined o) h = record h { rows = removed o h.rows; written = but_last h.written }
before (Made o) h = record h { rows = removed o h.rows; made = but_last h.made }
before (Remade o x) h = record h { rows = put_again o x h.rows; made = but_last h.made }

-- the change in which an object of a name is made, where this one of it was changed before, or none
abbrev pub making : Oid → Option Object → Change
making o None = Made o
making o (Some x) = Remade o x

-- What a step from an old heap to a new one gave, where it was to come to this heap or to none: a change that leads
-- back, or nothing, with the heap as it was.
abbrev pub Steps : Option Heap → Heap → Heap → Option Change → Type 0
Steps next old new None = (next ≡ None) × (new ≡ old)
Steps next old new (Some c) = (next ≡ Some new) × (before c new ≡ old)

-- the heap before all of these changes
abbrev pub before_all : List Change → Heap → Heap
before_all [] h = h
before_all (c ∷ cs) h = before c (before_all cs h)

-- the heap when the log was so long
abbrev pub heap_at : List Change → Heap → ℕ → Heap
heap_at log h mark = before_all (drop mark log) h

-- the heaps at the marks, the last one first
abbrev pub saved_in : List Change → Heap → List ℕ → List Heap
saved_in log h marks = reverse (map (heap_at log h) marks)

-- a change is noted only where there is a mark
abbrev pub noted_change : List ℕ → Change → List Change → List Change
noted_change [] c log = log
noted_change (mark ∷ marks) c log = log ++ c ∷ []

-- ---- what holds at all times

abbrev pub IsBelow : ℕ → List ℕ → Type 0
IsBelow k [] = Unit {0}
IsBelow k (j ∷ marks) = (k ≤ j) × IsBelow k marks

-- each mark is a length that the log had, and none is past a later one
abbrev pub AreMarks : List ℕ → ℕ → Type 0
AreMarks [] n = Unit {0}
AreMarks (k ∷ marks) n = (k ≤ n) × IsBelow k marks × AreMarks marks n

-- names ascend, the objects are those that were written or made and no others, and no more were changed than may be
pub record IsSound (h : Heap) : Type 0 where
  pub ascending : ascends h.rows ≡ true
  pub there : (o : Oid) → is_some (get h.rows o) ≡ is_changed o h
  pub few : changed h ≤ 256

abbrev pub AreSound : List Heap → Type 0
AreSound [] = Unit {0}
AreSound (h ∷ hs) = IsSound h × AreSound hs

-- the marks are in order, and the heap and those that are saved are sound
pub record IsLogged (log : List Change) (h : Heap) (marks : List ℕ) : Type 0 where
  pub in_order : AreMarks marks (length log)
  pub now : IsSound h
  pub saved : AreSound (saved_in log h marks)
