-- What is found in a map that was made by putting rows into it.
use Rattle.std.proofs.Common.{◌≡◌, ℕ, zero, suc, [], ◌∷◌, Some, subst}
use Rattle.std.specs.Prelude.{slice_get}
use Rattle.std.specs.List.{AllByRecursion}
use Rattle.fab_base.specs.declared.object.Oid.{Oid}
use Rattle.fab_base.specs.declared.object.Object.{Object}
use Rattle.fab_base.specs.FlatMap.{FlatMap, get, put, put_all, map_of}
use Rattle.fab_map.proofs.Rows.{get-put_same}
use Rattle.fab_laws.specs.Closed.{HasOne}
use Rattle.fab_laws.proofs.Closed.{put_grown}
use Rattle.fab_laws.proofs.Maps.{AreAll, put_keeps}

-- ---- what holds of each object that was put

module _ (P : Oid → Object → Type 0) where
  put_all_keeps : (rows m : FlatMap) → AreAll P m → AllByRecursion (λ row. P row.0 row.1) rows → AreAll P (put_all rows m)
  put_all_keeps [] m a h = a
  put_all_keeps (row ∷ rows) m a h = put_all_keeps rows (put row.0 row.1 m) (put_keeps P row.0 row.1 m a h.0) h.1

  pub each_of_map : (rows : FlatMap) → AllByRecursion (λ row. P row.0 row.1) rows → (o : Oid) (x : Object) → get (map_of rows) o ≡ Some x → P o x
  each_of_map rows h = put_all_keeps rows [] (λ o x e. absurd (cc)) h

-- ---- names that have an object

has_put_all : (rows m : FlatMap) (p : Oid) → HasOne m p → HasOne (put_all rows m) p
has_put_all [] m p h = h
has_put_all (row ∷ rows) m p h = has_put_all rows (put row.0 row.1 m) p ((put_grown row.0 row.1 m).still p h.0 h.1)

pub has_row : (rows m : FlatMap) (i : ℕ) (row : Oid × Object) → slice_get rows i ≡ Some row → HasOne (put_all rows m) row.0
has_row [] m i row e = absurd (cc)
has_row (here ∷ rows) m zero row e =
    let same : here ≡ row = cc in
    subst (λ (r : Oid × Object). HasOne (put_all rows (put here.0 here.1 m)) r.0) same
    (has_put_all rows (put here.0 here.1 m) here.0 (here.1, get-put_same here.0 here.1 m))
has_row (here ∷ rows) m (suc i) row e = has_row rows (put here.0 here.1 m) i row e
