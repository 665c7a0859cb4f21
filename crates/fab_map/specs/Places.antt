-- Where a name stands among rows, and where it would go.
use Rattle.std.specs.Prelude.{◌≡◌, ℕ, ◌<◌, ◌≤◌, length, true}
use Rattle.std.specs.List.{AllWithin, HoldsAt}
use Rattle.fab_base.specs.declared.object.Oid.{Oid}
use Rattle.fab_base.specs.FlatMap.{FlatMap, is_before}

-- the row at place i has this name
pub record IsAt (rows : FlatMap) (o : Oid) (i : ℕ) : Type 0 where
  pub in_range : i < length rows
  pub name : HoldsAt (λ row. row.0 ≡ o) rows i

-- this name would go to place i: it stands behind the names before i, and before those from i on
pub record IsGap (rows : FlatMap) (o : Oid) (i : ℕ) : Type 0 where
  pub in_range : i ≤ length rows
  pub before : AllWithin (λ row. is_before row.0 o ≡ true) rows 0 i
  pub behind : AllWithin (λ row. is_before o row.0 ≡ true) rows i (length rows)
