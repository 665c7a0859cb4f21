-- A transaction that a store outside the set has prepared, and the store's shelf behind its commit: each row that it leaves is there, one
-- version above what was there, and no other object changes.
use Rattle.std.proofs.Common.{◌≡◌, ◌⊎◌, inl, inr, ℕ, suc, ◌≤◌, List, [], ◌∷◌, map, Some, Contains, sym, ap, ◌∙◌, subst, arith}
use Rattle.std.specs.List.{AllByRecursion}
use Rattle.std.proofs.lemmas.Bool.{both_ways, cases_Bool}
use Rattle.std.proofs.lemmas.List.{append-nil}
use Rattle.std.proofs.lemmas.Option.{same_Some}
use Rattle.fab_base.specs.declared.object.Oid.{Oid}
use Rattle.fab_base.specs.declared.object.Tid.{Tid}
use Rattle.fab_base.specs.declared.entry.Entry.TheVariants as e
use Rattle.fab_base.specs.declared.message.Items.{Items}
use Rattle.fab_base.specs.FieldSpelling.{IsObject, sent_version}
use Rattle.fab_base.specs.FlatMap.{is_among}
use Rattle.fab_net.specs.declared.note.Commit.{Commit}
use Rattle.fab_net.specs.declared.note.Logged.{Logged}
use Rattle.fab_protocol.specs.Shelves.{IsShelf}
use Rattle.fab_protocol.specs.Stores.{Shelf, Prepared, Item, Write, Create, all_in, changed_by, item_name, keeps, named_by, prepared_as}
use Rattle.fab_protocol.specs.Stores as stores
use Rattle.fab_protocol.specs.Tables.{OnlyOnce, row_of, placed_all}
use Rattle.fab_protocol.specs.Versions.{Row, begun, left_by, name_of, names_of, raised, version_of}
use Rattle.fab_protocol.proofs.Commits.{new_before, one_prepared, read_version}
use Rattle.fab_protocol.proofs.TableLaws.{all_placed_all}
use Rattle.fab_protocol.proofs.VersionLaws.{changed_once, left_names, version_by_row, version_in, version_of_row}
use Rattle.fab_world.specs.Machine.{Setting, World, shelf}
use Rattle.fab_release.specs.Sights.{Sight, Public}
use Rattle.fab_release.specs.Replay.{Rebuilt}
use Rattle.fab_isolation.specs.Law.{IsShared}
use Rattle.fab_integrity.proofs.Invariant.{In, IsStore}
use Rattle.fab_integrity.proofs.Items.{in_creates, in_writes, left_here, locks_out}
use Rattle.fab_integrity.proofs.Lists.{contains_of, each_of, in_append, in_map, map_in}
use Rattle.fab_integrity.proofs.Maps.{among_in, in_among, row_once}
use Rattle.fab_integrity.proofs.Replays.{risen_is}
use Rattle.fab_shadow.proofs.Shadow.{never, Stands}
use Rattle.fab_shadow.proofs.Rows.{placed_one, placed_others}
use Rattle.fab_shadow.proofs.StoreHere.{shadows, shelf_ok}

-- each row that items leave is of an item
pub item_of : (items : Items) (r : Row) → In r (left_by items) → (j : Item) × In j (all_in items) × (r.0 ≡ item_name j)
item_of items r h = elim (in_append r (map raised items.writes) (map begun items.creates) h) [
  | inl wrote ↦
      let f = in_map raised r items.writes wrote in (Write f.0.0 f.0.1 f.0.2, in_writes items f.0 f.1, ap name_of f.2)
  | inr made ↦
      let f = in_map begun r items.creates made in (Create f.0.0 f.0.1, in_creates items f.0 f.1, ap name_of f.2)
]

module _ (S : Setting) (sight : Sight) (P : Public) (shared : IsShared S sight P) (w : World) (log : List Logged) (cs : List Commit) (k : Rebuilt)
    (stands : Stands S sight P w log cs k) (s : ℕ) (me : IsStore S sight.has never s) where
  abbrev now : Shelf
  now = shelf S w s

  ok : IsShelf S.rights s now
  ok = shelf_ok S sight P shared w log cs k stands s me

  module _ (t : Tid) (items : Items) (there : In (t, items) now.prepared) where
    -- the shelf behind its commit
    abbrev pub applied : Shelf
    applied = keeps (e.Applied t) now

    has : Contains now.prepared (t, items)
    has = contains_of (t, items) now.prepared there

    -- it is the only one of its tid
    pub only_as : prepared_as t now.prepared ≡ (t, items) ∷ []
    only_as = one_prepared (t, items) now.prepared ok.apart has

    -- what it names no other leaves
    pub bars : (q : Prepared) (r x : Row) → In q now.prepared → In x (left_by q.1) → In r (left_by items) → x.0 ≡ r.0 → q ≡ (t, items)
    bars q r x h leaves left same =
        let j = item_of items r left in
        sym (locks_out now.prepared (t, items) q j.0 x ok.apart there h j.1 leaves (same ∙ j.2))

    pub applied_rows : applied.rows ≡ placed_all name_of (left_by items) now.rows
    applied_rows = ap (λ ps. stores.behind ps now.rows) only_as ∙ ap (λ rs. placed_all name_of rs now.rows) (append-nil (left_by items))

    -- it leaves one row of a name
    pub one_left : (q r : Row) → In q (left_by items) → In r (left_by items) → q.0 ≡ r.0 → q ≡ r
    one_left q r h g same =
        let once : OnlyOnce (names_of (left_by items)) =
        subst OnlyOnce (sym (left_names items))
        (changed_once items (each_of (λ (p : Prepared). OnlyOnce (named_by p.1)) now.prepared (t, items) ok.once there)) in
        same_Some q r
        (sym (row_once name_of (left_by items) q once h) ∙ ap (row_of name_of (left_by items)) same ∙ row_once name_of (left_by items) r once g)

    -- here
    pub left_at : (r : Row) → In r (left_by items) → r.0.store ≡ s
    left_at r h =
        each_of (λ (q : Row). q.0.store ≡ s) (left_by items) r
        (left_here s (t, items) (each_of (λ (p : Prepared). AllByRecursion (λ j. (item_name j).store ≡ s) (all_in p.1)) now.prepared (t, items) ok.items_here there)) h

    -- one version above what is there
    pub left_next : (r : Row) → In r (left_by items) → r.1 ≡ suc (version_of now.rows r.0)
    left_next r h = elim (in_append r (map raised items.writes) (map begun items.creates) h) [
      | inl wrote ↦
          let f = in_map raised r items.writes wrote in
          let read : version_of now.rows f.0.0 ≡ f.0.1 = read_version S.rights s now ok t items has f.0 (contains_of f.0 items.writes f.1) in
          let low = stands.low s me f.0.0 in
          ap (λ (q : Row). q.1) f.2 ∙ risen_is f.0.1 (omega (arith, read, low)) ∙ ap suc (sym read)
          ∙ ap (λ (q : Row). suc (version_of now.rows q.0)) (sym f.2)
      | inr made ↦
          let f = in_map begun r items.creates made in
          let none : version_of now.rows f.0.0 ≡ 0 =
          version_by_row now.rows f.0.0 ∙ ap version_in (new_before S.rights s now ok t items has f.0 (contains_of f.0 items.creates f.1)) in
          ap (λ (q : Row). q.1) f.2 ∙ ap suc (sym none) ∙ ap (λ (q : Row). suc (version_of now.rows q.0)) (sym f.2)
    ]

    -- ---- what is there behind it

    pub found_left : (r : Row) → In r (left_by items) → row_of name_of applied.rows r.0 ≡ Some r
    found_left r h = ap (λ rs. row_of name_of rs r.0) applied_rows ∙ placed_one (left_by items) now.rows r h (λ q g same. one_left q r g h same)

    pub found_other : (o : Oid) → ((r : Row) → In r (left_by items) → r.0 ≡ o → ⊥) → row_of name_of applied.rows o ≡ row_of name_of now.rows o
    found_other o none = ap (λ rs. row_of name_of rs o) applied_rows ∙ placed_others (left_by items) now.rows o none

    -- an object is left or stays
    pub left_or_not : (o : Oid) → ((r : Row) × In r (left_by items) × (r.0 ≡ o)) ⊎ ((r : Row) → In r (left_by items) → r.0 ≡ o → ⊥)
    left_or_not o = elim (cases_Bool (is_among o (names_of (left_by items)))) [
      | inl among ↦ let f = in_map name_of o (left_by items) (among_in o (names_of (left_by items)) among) in inl (f.0, f.1, sym f.2)
      | inr apart ↦ inr (λ r h same. both_ways (is_among o (names_of (left_by items))) apart
          (in_among o (names_of (left_by items)) (subst (λ p. In p (names_of (left_by items))) same (map_in name_of r (left_by items) h))))
    ]

    -- no version falls
    pub rises : (o : Oid) → version_of now.rows o ≤ version_of applied.rows o
    rises o = elim (left_or_not o) [
      | inl one ↦
          let next : one.0.1 ≡ suc (version_of now.rows o) = left_next one.0 one.1 ∙ ap (λ p. suc (version_of now.rows p)) one.2 in
          let found : version_of applied.rows o ≡ one.0.1 =
          version_of_row applied.rows o one.0 (ap (row_of name_of applied.rows) (sym one.2) ∙ found_left one.0 one.1) in
          omega (arith, next, found)
      | inr none ↦
          let same : version_of applied.rows o ≡ version_of now.rows o =
          version_by_row applied.rows o ∙ ap version_in (found_other o none) ∙ sym (version_by_row now.rows o) in
          omega (arith, same)
    ]

    -- what is there can be spelled
    pub applied_spelled : AllByRecursion (λ row. IsObject sent_version row.2) applied.rows
    applied_spelled =
        let known = shadows S sight P shared w log cs k stands s me in
        subst (AllByRecursion (λ (row : Row). IsObject sent_version row.2)) (sym applied_rows)
        (all_placed_all name_of (λ (row : Row). IsObject sent_version row.2) (left_by items) now.rows
        (each_of (λ (p : Prepared). AllByRecursion (λ row. IsObject sent_version row.2) (left_by p.1)) now.prepared (t, items) known.left_spelled there) known.spelled)
