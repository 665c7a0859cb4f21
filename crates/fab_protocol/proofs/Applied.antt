-- An Applied record keeps what holds of a shelf.
use Rattle.std.proofs.Common.{◌≡◌, ◌≤◌, ℕ, true, false, not, cond, nat_lt, IsFalse}
use Rattle.std.proofs.Common.{List, [], ◌∷◌, ◌++◌, length, sym, subst, ap, ◌∙◌}
use Rattle.std.specs.List.{flat_map, AllByRecursion}
use Rattle.fab_base.specs.declared.object.Tid.{Tid}
use Rattle.fab_base.specs.declared.entry.Entry.TheVariants as e
use Rattle.fab_base.specs.FieldSpelling.{KeepsItems}
use Rattle.fab_base.specs.FlatMap.{is_same}
use Rattle.fab_base.proofs.Lists.{all_append, all_split, all_filter, all_along, all_two, all_flat, all_always}
use Rattle.fab_rights.specs.declared.rights.Rights.{Rights}
use Rattle.fab_protocol.specs.Versions.{Rows, name_of, version_of, left_by, is_tid}
use Rattle.fab_protocol.specs.Stores.{Shelf, Prepared, Item, Read, Write, Create, keeps, prepared_as, without, item_name, reads_in, writes_in, creates_in}
use Rattle.fab_protocol.specs.Stores.{all_in, is_stale}
use Rattle.fab_protocol.specs.Shelves.{IsShelf, IsCurrent, IsApart, AreApart}
use Rattle.fab_protocol.proofs.Locks.{Free, free_both_ways, free_unchanged, turned}
use Rattle.fab_protocol.proofs.Records.{apart_filter}
use Rattle.fab_protocol.proofs.TableLaws.{all_placed_all, ascends_placed_all, row_of_placed_all}
use Rattle.fab_protocol.proofs.VersionLaws.{version_in, version_by_row, left_by_names, left_others, left_versions, left_fields}

-- ---- the others are free of what is applied

cross : (t : Tid) (ps : List Prepared) → AreApart ps
    → AllByRecursion (λ p. AllByRecursion (λ q. AllByRecursion (Free q.1) (all_in p.1)) (prepared_as t ps)) (without t ps)
cross t [] h = tt
cross t (p ∷ ps) h =
    elim (is_tid p.0 t) as (λ b.
    AllByRecursion (λ x. AllByRecursion (λ q. AllByRecursion (Free q.1) (all_in x.1)) (cond b (p ∷ prepared_as t ps) (prepared_as t ps)))
    (cond (not b) (p ∷ without t ps) (without t ps))) [
      | true ↦ all_two (IsApart p) (λ x. AllByRecursion (λ q. AllByRecursion (Free q.1) (all_in x.1)) (prepared_as t ps))
          (λ x. AllByRecursion (λ q. AllByRecursion (Free q.1) (all_in x.1)) (p ∷ prepared_as t ps))
          (λ x g k. (free_both_ways x.1 p.1 g.1, k)) (without t ps)
          (all_filter (IsApart p) (λ q. not (is_tid q.0 t)) ps h.0) (cross t ps h.1)
      | false ↦ (
        all_along (IsApart p) (λ q. AllByRecursion (Free q.1) (all_in p.1)) (λ q g. g.1) (prepared_as t ps)
            (all_filter (IsApart p) (λ q. is_tid q.0 t) ps h.0),
        cross t ps h.1,
      )
    ]

-- ---- what is current stays so where its version does

current_at : (a b : Shelf) (i : Item) → version_of b.rows (item_name i) ≡ version_of a.rows (item_name i) → IsCurrent a i → IsCurrent b i
current_at a b (Read o version) same h = subst (λ n. IsFalse (is_stale n version)) (sym same) h
current_at a b (Write o version x) same h = subst (λ n. IsFalse (is_stale n version)) (sym same) h
current_at a b (Create o x) same h = subst (λ n. IsFalse (nat_lt 0 n)) (sym same) h

module _ (rights : Rights) (s : ℕ) (t : Tid) (shelf : Shelf) (h : IsShelf rights s shelf) where
  abbrev those : List Prepared
  those = prepared_as t shelf.prepared

  abbrev left : Rows
  left = flat_map (λ (p : Prepared). left_by p.1) those

  abbrev after : Shelf
  after = keeps (e.Applied t) shelf

  item_current : (i : Item) → AllByRecursion (λ q. Free q.1 i) those → IsCurrent shelf i → IsCurrent after i
  item_current i free current =
      let apart : AllByRecursion (λ r. IsFalse (is_same (name_of r) (item_name i))) left =
      all_flat (λ r. IsFalse (is_same (name_of r) (item_name i))) (λ (p : Prepared). left_by p.1) those
      (all_along (λ (q : Prepared). Free q.1 i) (λ q. AllByRecursion (λ r. IsFalse (is_same (name_of r) (item_name i))) (left_by q.1))
      (λ q g. left_others q.1 (item_name i) (free_unchanged q.1 i g)) those free) in
      let same : version_of after.rows (item_name i) ≡ version_of shelf.rows (item_name i) =
      version_by_row after.rows (item_name i)
      ∙ ap version_in (row_of_placed_all name_of left shelf.rows (item_name i) apart)
      ∙ sym (version_by_row shelf.rows (item_name i)) in
      current_at shelf after i same current

  all_current : (p : Prepared) → AllByRecursion (λ q. AllByRecursion (Free q.1) (all_in p.1)) those → AllByRecursion (IsCurrent shelf) (all_in p.1)
      → AllByRecursion (IsCurrent after) (all_in p.1)
  all_current p free current =
      all_two (λ i. AllByRecursion (λ (q : Prepared). Free q.1 i) those) (IsCurrent shelf) (IsCurrent after) item_current (all_in p.1)
      (turned (all_in p.1) those free) current

  left_here : AllByRecursion (λ r. r.0.store ≡ s) left
  left_here =
      all_flat (λ r. r.0.store ≡ s) (λ (p : Prepared). left_by p.1) those
      (all_along (λ (p : Prepared). AllByRecursion (λ i. (item_name i).store ≡ s) (all_in p.1)) (λ p. AllByRecursion (λ r. r.0.store ≡ s) (left_by p.1))
      each those (all_filter (λ (p : Prepared). AllByRecursion (λ i. (item_name i).store ≡ s) (all_in p.1)) (λ p. is_tid p.0 t) shelf.prepared h.items_here))
    where
      each : (p : Prepared) → AllByRecursion (λ i. (item_name i).store ≡ s) (all_in p.1) → AllByRecursion (λ r. r.0.store ≡ s) (left_by p.1)
      each p g =
          let k = all_split (λ i. (item_name i).store ≡ s) (reads_in p.1 ++ writes_in p.1) (creates_in p.1) g in
          left_by_names (λ o. o.store ≡ s) p.1
          (all_append (λ i. (item_name i).store ≡ s) (writes_in p.1) (creates_in p.1)
          (all_split (λ i. (item_name i).store ≡ s) (reads_in p.1) (writes_in p.1) k.0).1 k.1)

  pub applied_keeps : IsShelf rights s after
  applied_keeps =
      let counts = all_filter (λ (p : Prepared). KeepsItems p.1) (λ p. is_tid p.0 t) shelf.prepared h.counts in
      record {
        ascending = ascends_placed_all name_of left shelf.rows h.ascending;
        rows_here = all_placed_all name_of (λ r. r.0.store ≡ s) left shelf.rows left_here h.rows_here;
        versions = all_placed_all name_of (λ r. 1 ≤ r.1) left shelf.rows
            (all_flat (λ r. 1 ≤ r.1) (λ (p : Prepared). left_by p.1) those
            (all_always (λ (p : Prepared). AllByRecursion (λ r. 1 ≤ r.1) (left_by p.1)) (λ p. left_versions p.1) those)) h.versions;
        senders = all_filter _ (λ p. not (is_tid p.0 t)) shelf.prepared h.senders;
        tids = all_filter _ (λ p. not (is_tid p.0 t)) shelf.prepared h.tids;
        items_here = all_filter _ (λ p. not (is_tid p.0 t)) shelf.prepared h.items_here;
        current = all_two (λ p. AllByRecursion (λ (q : Prepared). AllByRecursion (Free q.1) (all_in p.1)) those)
            (λ p. AllByRecursion (IsCurrent shelf) (all_in p.1)) (λ p. AllByRecursion (IsCurrent after) (all_in p.1)) all_current
            (without t shelf.prepared) (cross t shelf.prepared h.apart) (all_filter _ (λ p. not (is_tid p.0 t)) shelf.prepared h.current);
        apart = apart_filter (λ p. not (is_tid p.0 t)) shelf.prepared h.apart;
        once = all_filter _ (λ p. not (is_tid p.0 t)) shelf.prepared h.once;
        allowed = all_filter _ (λ p. not (is_tid p.0 t)) shelf.prepared h.allowed;
        suited = all_filter _ (λ p. not (is_tid p.0 t)) shelf.prepared h.suited;
        fields = all_placed_all name_of (λ r. length r.2.fields ≤ 16) left shelf.rows
            (all_flat (λ r. length r.2.fields ≤ 16) (λ (p : Prepared). left_by p.1) those
            (all_along (λ (p : Prepared). KeepsItems p.1) (λ p. AllByRecursion (λ r. length r.2.fields ≤ 16) (left_by p.1))
            (λ p g. left_fields p.1 g) those counts)) h.fields;
        counts = all_filter _ (λ p. not (is_tid p.0 t)) shelf.prepared h.counts;
        remembered = h.remembered;
      }
