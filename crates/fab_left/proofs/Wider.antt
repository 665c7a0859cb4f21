-- Rows under other names than those that are put into a map: what is there stays, and the order in which both come is all one.
use Rattle.std.proofs.Common.{◌≡◌, Bool, true, false, [], ◌∷◌, Some, refl, sym, ap, ◌∙◌, true≢false}
use Rattle.std.specs.List.{AllByRecursion}
use Rattle.fab_base.specs.declared.object.Oid.{Oid}
use Rattle.fab_base.specs.declared.object.Object.{Object}
use Rattle.fab_base.specs.declared.object.Tid.{Tid}
use Rattle.fab_base.specs.FlatMap.{FlatMap, is_same, get, put, put_all, ascends}
use Rattle.fab_base.proofs.Names.{same_flips}
use Rattle.fab_base.proofs.NameOrder.{one_name}
use Rattle.fab_map.proofs.Rows.{ascends-put, get-put_same, get-put_other, same_from_get}
use Rattle.fab_laws.proofs.Touches.{none_some}
use Rattle.fab_laws.specs.Changes.{IsOf}
use Rattle.fab_left.specs.Left.{IsNew, Fresh, Stems}

get_put : (o q : Oid) (x : Object) (m : FlatMap) → is_same o q ≡ true → get (put o x m) q ≡ Some x
get_put o q x m e = ap (get (put o x m)) (sym (one_name o q e)) ∙ get-put_same o x m

-- ---- two names that differ

module _ (o p : Oid) (x y : Object) (apart : is_same o p ≡ false) where
  both_ways : (m : FlatMap) (q : Oid) (b : Bool) → is_same o q ≡ b → (c : Bool) → is_same p q ≡ c → get (put o x (put p y m)) q ≡ get (put p y (put o x m)) q
  both_ways m q true i true j = absurd (true≢false (sym i ∙ ap (is_same o) (sym (one_name p q j)) ∙ apart))
  both_ways m q true i false j = get_put o q x (put p y m) i ∙ sym (get-put_other p q y (put o x m) j ∙ get_put o q x m i)
  both_ways m q false i true j = get-put_other o q x (put p y m) i ∙ get_put p q y m j ∙ sym (get_put p q y (put o x m) j)
  both_ways m q false i false j =
      get-put_other o q x (put p y m) i ∙ get-put_other p q y m j ∙ sym (get-put_other p q y (put o x m) j ∙ get-put_other o q x m i)

  pub put_put : (m : FlatMap) → ascends m ≡ true → put o x (put p y m) ≡ put p y (put o x m)
  put_put m up =
      same_from_get (put o x (put p y m)) (put p y (put o x m)) (ascends-put o x (put p y m) (ascends-put p y m up)) (ascends-put p y (put o x m) (ascends-put o x m up))
      (λ q. both_ways m q (is_same o q) refl (is_same p q) refl)

-- ---- many names

-- none of these is this name
abbrev pub AreOther : Oid → FlatMap → Type 0
AreOther o more = AllByRecursion (λ row. is_same row.0 o ≡ false) more

pub put_all_put : (o : Oid) (x : Object) (more m : FlatMap) → AreOther o more → ascends m ≡ true → put_all more (put o x m) ≡ put o x (put_all more m)
put_all_put o x [] m h up = refl
put_all_put o x (row ∷ more) m h up =
    ap (put_all more) (put_put row.0 o row.1 x h.0 m up)
    ∙ put_all_put o x more (put row.0 row.1 m) h.1 (ascends-put row.0 row.1 m up)

pub get_put_all : (o : Oid) (more m : FlatMap) → AreOther o more → get (put_all more m) o ≡ get m o
get_put_all o [] m h = refl
get_put_all o (row ∷ more) m h = get_put_all o more (put row.0 row.1 m) h.1 ∙ get-put_other row.0 o row.1 m h.0

-- ---- new names

module _ (tid : Tid) (known : FlatMap) where
  -- what is in the rows isn't new
  there : (o p : Oid) (x : Object) (rows : FlatMap) → Stems tid known rows → get rows o ≡ Some x → IsNew tid known p → (b : Bool) → is_same p o ≡ b → is_same p o ≡ false
  there o p x rows st e n true i = absurd (none_some x (sym (st.none_new p n) ∙ ap (get rows) (one_name p o i) ∙ e))
  there o p x rows st e n false i = i

  pub others : (o : Oid) (x : Object) (rows more : FlatMap) → Stems tid known rows → get rows o ≡ Some x → Fresh tid known more → AreOther o more
  others o x rows [] st e h = tt
  others o x rows (row ∷ more) st e h = (there o row.0 x rows st e h.0 (is_same row.0 o) refl, others o x rows more st e h.1)

  -- what the attempt makes isn't new
  unmade : (o p : Oid) → IsOf tid o → IsNew tid known p → (b : Bool) → is_same p o ≡ b → is_same p o ≡ false
  unmade o p of n true i = absurd (n.unmade (made_so (one_name p o i) of))
    where
      made_so : p ≡ o → IsOf tid o → IsOf tid p
      made_so e of = record {
        worker = ap (λ (q : Oid). q.worker) e ∙ of.worker;
        boot = ap (λ (q : Oid). q.boot) e ∙ of.boot;
        number = ap (λ (q : Oid). q.number) e
            ∙ of.number;
      }
  unmade o p of n false i = i

  pub others_made : (o : Oid) (more : FlatMap) → IsOf tid o → Fresh tid known more → AreOther o more
  others_made o [] of h = tt
  others_made o (row ∷ more) of h = (unmade o row.0 of h.0 (is_same row.0 o) refl, others_made o more of h.1)

  -- ---- what stems from known objects and the attempt goes on doing so

  stems_put : (o : Oid) (x : Object) (rows : FlatMap) → ((p : Oid) → IsNew tid known p → is_same o p ≡ false) → Stems tid known rows → Stems tid known (put o x rows)
  stems_put o x rows f st = record {
    ascending = ascends-put o x rows st.ascending;
    none_new = λ p n. get-put_other o p x rows (f p n) ∙ st.none_new p n;
  }

  pub stems_written : (o : Oid) (x y : Object) (rows : FlatMap) → get rows o ≡ Some y → Stems tid known rows → Stems tid known (put o x rows)
  stems_written o x y rows e st = stems_put o x rows (λ p n. same_flips o p ∙ there o p y rows st e n (is_same p o) refl) st

  pub stems_made : (o : Oid) (x : Object) (rows : FlatMap) → IsOf tid o → Stems tid known rows → Stems tid known (put o x rows)
  stems_made o x rows of st = stems_put o x rows (λ p n. same_flips o p ∙ unmade o p of n (is_same p o) refl) st
