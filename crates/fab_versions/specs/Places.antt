-- Where a name stands among the rows of a table, and where it would go.
use Rattle.std.specs.Prelude.{◌≡◌, ℕ, ◌<◌, ◌≤◌, List, length, true}
use Rattle.std.specs.List.{AllWithin, HoldsAt}
use Rattle.fab_base.specs.declared.object.Oid.{Oid}
use Rattle.fab_base.specs.FlatMap.{is_before}

-- the row at place i has this name
pub record IsAt {R : Type 0} (name : R → Oid) (rows : List R) (o : Oid) (i : ℕ) : Type 0 where
  pub in_range : i < length rows
  pub name_here : HoldsAt (λ row. name row ≡ o) rows i

-- this name would go to place i: it stands behind the names before i, and before those from i on
pub record IsGap {R : Type 0} (name : R → Oid) (rows : List R) (o : Oid) (i : ℕ) : Type 0 where
  pub in_range : i ≤ length rows
  pub before : AllWithin (λ row. is_before (name row) o ≡ true) rows 0 i
  pub behind : AllWithin (λ row. is_before o (name row) ≡ true) rows i (length rows)
