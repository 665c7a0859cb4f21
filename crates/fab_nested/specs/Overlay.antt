-- What was changed, over what is known.
use Rattle.std.specs.Prelude.{◌≡◌, ℕ, true, List, map, is_some}
use Rattle.fab_base.specs.declared.object.Oid.{Oid}
use Rattle.fab_base.specs.FlatMap.{FlatMap, get, put_all, ascends, is_among}
use Rattle.fab_language.specs.Heaps.{Heap}
use Rattle.fab_nested.specs.declared.known.Known.{Known}
use Rattle.fab_nested.specs.declared.known.Known.TheVariants.{Own, Lent}
use Rattle.fab_nested.specs.declared.log.Change.{Change}
use Rattle.fab_nested.specs.Logs.{saved_in, IsLogged}
use Rattle.fab_nested.specs.Nested.{Nested}

-- the objects that are known
abbrev pub rows_of : Known → FlatMap
rows_of (Own rows) = rows
rows_of (Lent rows) = rows.now

-- all objects, where these were changed of those that are known
abbrev pub over : FlatMap → Heap → Heap
over known h = record h { rows = put_all h.rows known }

-- what frames are: versions, what is known, the log, what was changed, the marks, and the touches
abbrev pub framed : List (Oid × ℕ) → FlatMap → List Change → Heap → List ℕ → List (ℕ × Oid) → Nested
framed versions known log h marks touches = record {
  versions = versions;
  now = over known h;
  saved = map (over known) (saved_in log h marks);
  touches = touches;
}

-- names ascend, and an object that has a version is known
pub record IsKnown (versions : List (Oid × ℕ)) (known : FlatMap) : Type 0 where
  pub ascending : ascends known ≡ true
  pub versioned : (o : Oid) → is_among o (map (λ v. v.0) versions) ≡ true → is_some (get known o) ≡ true

-- so it is at all times, and what was changed can be undone
pub record IsFramed (versions : List (Oid × ℕ)) (known : FlatMap) (log : List Change) (h : Heap) (marks : List ℕ) : Type 0 where
  pub below : IsKnown versions known
  pub above : IsLogged log h marks
