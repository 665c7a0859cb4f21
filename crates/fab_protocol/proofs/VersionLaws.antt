-- Versions of rows, and what a commit leaves of items.
use Rattle.std.proofs.Common.{◌≡◌, ℕ, suc, ◌<◌, ◌≤◌, true, false, cond, ◌==◌, if◌then◌else◌, IsFalse, IsSome}
use Rattle.std.proofs.Common.{List, [], ◌∷◌, ◌++◌, map, length, Option, Some, None, unwrap_or, refl, sym, subst, ap, ◌∙◌, arith, lit≤, append_assoc}
use Rattle.std.specs.List.{AllByRecursion}
use Rattle.std.proofs.lemmas.Bool.{eqb-true}
use Rattle.std.proofs.lemmas.List.{map-append}
use Rattle.fab_base.specs.declared.object.Oid.{Oid}
use Rattle.fab_base.specs.declared.object.Object.{Object}
use Rattle.fab_base.specs.declared.message.Items.{Items}
use Rattle.fab_base.specs.FieldSpelling.{KeepsItems}
use Rattle.fab_base.specs.FlatMap.{is_among, is_same}
use Rattle.fab_base.proofs.Lists.{all_append, all_map, all_of_map, all_by_recursion, all_always}
use Rattle.fab_protocol.specs.Tables.{row_of, placed, OnlyOnce}
use Rattle.fab_protocol.specs.Versions.{Row, Rows, name_of, version_of, risen, raised, begun, left_by}
use Rattle.fab_protocol.specs.Stores.{Write, Create, item_name, reads_in, writes_in, creates_in, changed_by, named_by}
use Rattle.fab_protocol.proofs.NameLists.{none_among, once_parts}
use Rattle.fab_protocol.proofs.TableLaws.{row_of_placed}

-- ---- versions are those of the rows of names

pub version_of_row : (rows : Rows) (o : Oid) (r : Row) → row_of name_of rows o ≡ Some r → version_of rows o ≡ r.1
version_of_row [] o r h = let no : None ≡ Some r = h in cc
version_of_row (x ∷ xs) o r h =
    elim (is_same x.0 o) as (λ b. cond b (Some x) (row_of name_of xs o) ≡ Some r → (if b then x.1 else version_of xs o) ≡ r.1) [
      | true ↦ λ e. ap (λ (s : Option Row). (unwrap_or s x).1) e
      | false ↦ λ e. version_of_row xs o r e
    ] h

-- the version by the row
abbrev pub version_in : Option Row → ℕ
version_in None = 0
version_in (Some r) = r.1

pub version_by_row : (rows : Rows) (o : Oid) → version_of rows o ≡ version_in (row_of name_of rows o)
version_by_row [] o = refl
version_by_row (x ∷ xs) o =
    elim (is_same x.0 o) as (λ b. (if b then x.1 else version_of xs o) ≡ version_in (cond b (Some x) (row_of name_of xs o))) [
      | true ↦ refl
      | false ↦ version_by_row xs o
    ]

-- a name that has a version has a row
pub row_from_version : (rows : Rows) (o : Oid) → 0 < version_of rows o → IsSome (row_of name_of rows o)
row_from_version rows o h =
    elim (row_of name_of rows o) as (λ found. row_of name_of rows o ≡ found → IsSome found) [
      | None ↦ λ e. let none : version_of rows o ≡ 0 = version_by_row rows o ∙ ap version_in e in absurd (omega (arith, h, none))
      | Some r ↦ λ e. refl
    ] refl

-- behind a row that is placed its name has its version, and others have theirs
pub version_of_placed : (r : Row) (rows : Rows) (o : Oid)
    → version_of (placed name_of r rows) o ≡ (if is_same (name_of r) o then r.1 else version_of rows o)
version_of_placed r rows o =
    version_by_row (placed name_of r rows) o ∙ ap version_in (row_of_placed name_of r rows o)
    ∙ elim (is_same (name_of r) o) as (λ b. version_in (if b then Some r else row_of name_of rows o) ≡ (if b then r.1 else version_of rows o)) [
      | true ↦ refl
      | false ↦ sym (version_by_row rows o)
    ]

-- where rows have versions, there is no row of version 0
pub no_row : (rows : Rows) (o : Oid) → AllByRecursion (λ row. 1 ≤ row.1) rows → version_of rows o ≡ 0 → row_of name_of rows o ≡ None
no_row [] o v h = refl
no_row (x ∷ xs) o v h =
    elim (is_same x.0 o) as (λ b. (if b then x.1 else version_of xs o) ≡ 0 → cond b (Some x) (row_of name_of xs o) ≡ None) [
      | true ↦ λ e. absurd (omega (arith, v.0, e))
      | false ↦ λ e. no_row xs o v.1 e
    ] h

-- ---- what items leave

pub left_all : (P : Row → Type 0) (items : Items) → AllByRecursion (λ w. P (raised w)) items.writes → AllByRecursion (λ c. P (begun c)) items.creates
    → AllByRecursion P (left_by items)
left_all P items h g = all_append P (map raised items.writes) (map begun items.creates) (all_map P raised items.writes h) (all_map P begun items.creates g)

raised_names : (ws : Rows) → map name_of (map raised ws) ≡ map item_name (map (λ (w : Row). Write w.0 w.1 w.2) ws)
raised_names [] = refl
raised_names (w ∷ ws) = ap (λ os. w.0 ∷ os) (raised_names ws)

begun_names : (cs : List (Oid × Object)) → map name_of (map begun cs) ≡ map item_name (map (λ (c : Oid × Object). Create c.0 c.1) cs)
begun_names [] = refl
begun_names (c ∷ cs) = ap (λ os. c.0 ∷ os) (begun_names cs)

-- its rows have the names that are changed
pub left_names : (items : Items) → map name_of (left_by items) ≡ changed_by items
left_names items =
    map-append name_of (map raised items.writes) (map begun items.creates)
    ∙ ap (λ os. os ++ map name_of (map begun items.creates)) (raised_names items.writes)
    ∙ ap (λ os. map item_name (writes_in items) ++ os) (begun_names items.creates)
    ∙ sym (map-append item_name (writes_in items) (creates_in items))

pub changed_once : (items : Items) → OnlyOnce (named_by items) → OnlyOnce (changed_by items)
changed_once items h =
    (once_parts (map item_name (reads_in items)) (changed_by items)
    (subst OnlyOnce (ap (map item_name) (append_assoc (reads_in items) (writes_in items) (creates_in items))
    ∙ map-append item_name (reads_in items) (writes_in items ++ creates_in items)) h)).1

-- what holds of the names of writes and creates holds of the rows' names
pub left_by_names : (P : Oid → Type 0) (items : Items) → AllByRecursion (λ i. P (item_name i)) (writes_in items ++ creates_in items)
    → AllByRecursion (λ r. P (name_of r)) (left_by items)
left_by_names P items h =
    all_of_map P name_of (left_by items)
    (subst (AllByRecursion P) (sym (left_names items)) (all_map P item_name (writes_in items ++ creates_in items) h))

-- rows of other names than these
pub left_others : (items : Items) (o : Oid) → is_among o (changed_by items) ≡ false → AllByRecursion (λ r. IsFalse (is_same (name_of r) o)) (left_by items)
left_others items o h =
    all_of_map (λ p. IsFalse (is_same p o)) name_of (left_by items)
    (subst (AllByRecursion (λ p. IsFalse (is_same p o))) (sym (left_names items)) (none_among o (changed_by items) h))

risen_is_one : (n : ℕ) → 1 ≤ risen n
risen_is_one n = elim (n == 4294967295) as (λ b. (n == 4294967295) ≡ b → 1 ≤ (if b then n else suc n)) [
  | true ↦ λ e. omega (arith, eqb-true n 4294967295 e)
  | false ↦ λ e. omega arith
] refl

pub left_versions : (items : Items) → AllByRecursion (λ r. 1 ≤ r.1) (left_by items)
left_versions items =
    left_all (λ r. 1 ≤ r.1) items (all_always (λ (w : Row). 1 ≤ risen w.1) (λ w. risen_is_one w.1) items.writes)
    (all_always (λ (c : Oid × Object). 1 ≤ 1) (λ c. lit≤ tt) items.creates)

pub left_fields : (items : Items) → KeepsItems items → AllByRecursion (λ r. length r.2.fields ≤ 16) (left_by items)
left_fields items keeps =
    left_all (λ r. length r.2.fields ≤ 16) items (all_by_recursion (λ (w : Row). length w.2.fields ≤ 16) items.writes keeps.written)
    (all_by_recursion (λ (c : Oid × Object). length c.1.fields ≤ 16) items.creates keeps.created)
