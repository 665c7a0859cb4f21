-- Rows of a map whose names ascend, and what a map of answers has.
use Rattle.std.proofs.Common.{◌≡◌, ◌≤◌, true, false, cond, ◌||◌, if◌then◌else◌, List, [], ◌∷◌, length, Some, None, refl, sym, ap, subst, ◌∙◌, arith}
use Rattle.std.specs.List.{list_any, AllByRecursion}
use Rattle.std.specs.Map.{keys_of}
use Rattle.std.specs.Set.{is_member}
use Rattle.std.proofs.lemmas.Bool.{true≢false, or_parts}
use Rattle.std.proofs.lemmas.List.{length-map}
use Rattle.std.proofs.lemmas.Map.Made.{IsDistinct-keys_filter, length-le_from_is_member}
use Rattle.fab_base.specs.declared.object.Oid.{Oid}
use Rattle.fab_base.specs.declared.object.Object.{Object}
use Rattle.fab_base.specs.FlatMap.{FlatMap, is_same, is_among, get, put, put_all, map_of, ascends}
use Rattle.fab_base.proofs.Names.{same_flips, same_is_equivalence}
use Rattle.fab_base.proofs.NameOrder.{one_name}
use Rattle.fab_map.proofs.Made.{distinct_from_ascends}
use Rattle.fab_map.proofs.Rows.{leads, ascends_leads, ascends_rest, get_here, get_none_before, get-put_same, get-put_other}
use Rattle.fab_laws.specs.Locality.{rows_among}
use Rattle.fab_shapes.proofs.Maps.{each_of_map}
use Rattle.fab_protocol.specs.Versions.{Rows, names_of, objects_of}

-- ---- ascending rows

-- what is found behind the first row is found
found_behind : (row : Oid × Object) (rows : FlatMap) → ascends (row ∷ rows) ≡ true → (o : Oid) (x : Object) → get rows o ≡ Some x → get (row ∷ rows) o ≡ Some x
found_behind row rows h o x e =
    elim (is_same row.0 o) as (λ b. is_same row.0 o ≡ b → (if b then Some row.1 else get rows o) ≡ Some x) [
      | true ↦ λ i.
          let led : leads o rows ≡ true = subst (λ p. leads p rows ≡ true) (one_name row.0 o i) (ascends_leads row rows h) in
          let no : None ≡ Some x = sym (get_none_before o rows (ascends_rest row rows h) led) ∙ e in
          cc
      | false ↦ λ i. e
    ] refl

-- what holds of each object that is found holds of each row
pub all_rows : (P : Oid → Object → Type 0) (rows : FlatMap) → ascends rows ≡ true → ((o : Oid) (x : Object) → get rows o ≡ Some x → P o x)
    → AllByRecursion (λ row. P row.0 row.1) rows
all_rows P [] h f = tt
all_rows P (row ∷ rows) h f = (
  f row.0 row.1 (get_here row rows row.0 (same_is_equivalence.refl row.0)),
  all_rows P rows (ascends_rest row rows h) (λ o x e. f o x (found_behind row rows h o x e)),
)

-- ---- how many rows have names that are among these

flipped : (q : Oid) (names : List Oid) → is_member is_same names q ≡ is_among q names
flipped q names = λ i. list_any (λ p. same_flips q p i) names

kept_among : (names : List Oid) (rows : FlatMap) (q : Oid) → is_member is_same (keys_of (rows_among names rows)) q ≡ true → is_member is_same names q ≡ true
kept_among names [] q h = absurd (true≢false (sym h))
kept_among names (row ∷ rows) q h =
    elim (is_among row.0 names) as (λ b. is_among row.0 names ≡ b
    → is_member is_same (keys_of (cond b (row ∷ rows_among names rows) (rows_among names rows))) q ≡ true → is_member is_same names q ≡ true) [
      | true ↦ λ i g. elim (is_same q row.0) as (λ b. is_same q row.0 ≡ b
          → (b || is_member is_same (keys_of (rows_among names rows)) q) ≡ true → is_member is_same names q ≡ true) [
            | true ↦ λ j k. flipped q names ∙ ap (λ p. is_among p names) (one_name q row.0 j) ∙ i
            | false ↦ λ j k. kept_among names rows q k
          ] refl g
      | false ↦ λ i g. kept_among names rows q g
    ] refl h

-- no more than there are names
pub few_rows : (names : List Oid) (rows : FlatMap) → ascends rows ≡ true → length (rows_among names rows) ≤ length names
few_rows names rows h =
    let kept = rows_among names rows in
    let apart = IsDistinct-keys_filter is_same (λ row. is_among row.0 names) rows (distinct_from_ascends rows h) in
    let n = length-le_from_is_member same_is_equivalence (keys_of kept) names apart (kept_among names rows) in
    let m = length-map kept (λ (row : Oid × Object). row.0) in
    omega (arith, n, m)

-- ---- a map of answers

pub all_found : (P : Oid → Object → Type 0) (answers : Rows) → AllByRecursion (λ row. P row.0 row.2) answers
    → (o : Oid) (x : Object) → get (map_of (objects_of answers)) o ≡ Some x → P o x
all_found P answers a = each_of_map P (objects_of answers) (each answers a)
  where
    each : (rows : Rows) → AllByRecursion (λ row. P row.0 row.2) rows → AllByRecursion (λ row. P row.0 row.1) (objects_of rows)
    each [] h = tt
    each (row ∷ rows) h = (h.0, each rows h.1)

-- under a name of no answer there is what was there
put_past : (rows : Rows) (m : FlatMap) (o : Oid) → is_among o (names_of rows) ≡ false → get (put_all (objects_of rows) m) o ≡ get m o
put_past [] m o h = refl
put_past (row ∷ rows) m o h =
    let g = or_parts (is_same row.0 o) (is_among o (names_of rows)) h in
    put_past rows (put row.0 row.2 m) o g.1 ∙ get-put_other row.0 o row.2 m g.0

pub found_among : (answers : Rows) (o : Oid) (x : Object) → get (map_of (objects_of answers)) o ≡ Some x → is_among o (names_of answers) ≡ true
found_among answers o x e =
    elim (is_among o (names_of answers)) as (λ b. is_among o (names_of answers) ≡ b → b ≡ true) [
      | true ↦ λ i. refl
      | false ↦ λ i. let no : None ≡ Some x = sym (put_past answers [] o i) ∙ e in cc
    ] refl

-- where nothing is found, there is no answer of the name, and nothing was there
none_put : (rows : Rows) (m : FlatMap) (o : Oid) → get (put_all (objects_of rows) m) o ≡ None → (is_among o (names_of rows) ≡ false) × (get m o ≡ None)
none_put [] m o h = (refl, h)
none_put (row ∷ rows) m o h =
    let g = none_put rows (put row.0 row.2 m) o h in
    elim (is_same row.0 o) as (λ b. is_same row.0 o ≡ b → ((b || is_among o (names_of rows)) ≡ false) × (get m o ≡ None)) [
      | true ↦ λ i.
          let no : Some row.2 ≡ None = sym (ap (get (put row.0 row.2 m)) (sym (one_name row.0 o i)) ∙ get-put_same row.0 row.2 m) ∙ g.1 in
          cc
      | false ↦ λ i. (g.0, sym (get-put_other row.0 o row.2 m i) ∙ g.1)
    ] refl

pub none_among : (answers : Rows) (o : Oid) → get (map_of (objects_of answers)) o ≡ None → is_among o (names_of answers) ≡ false
none_among answers o h = (none_put answers [] o h).0
