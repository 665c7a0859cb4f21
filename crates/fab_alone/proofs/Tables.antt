-- What a commit makes of the tables of stores: the objects that the evaluation leaves, and the rows that caches keep.
use Rattle.std.proofs.Common.{◌≡◌, ◌⊎◌, inl, inr, ℕ, List, [], ◌∷◌, ◌++◌, map, true, false, cond, ◌==◌, if◌then◌else◌, IsFalse}
use Rattle.std.proofs.Common.{Option, Some, None, option_map, refl, sym, ap, ◌∙◌, subst, append-nil}
use Rattle.std.specs.List.{cons_option, filter, filter_map}
use Rattle.std.proofs.lemmas.Bool.{cases_eq, eq-eqb, eqb-true, false_from_ne_true, ne_eqb}
use Rattle.std.proofs.lemmas.List.{map-append}
use Rattle.std.proofs.lemmas.Option.{none-some}
use Rattle.fab_base.specs.declared.object.Object.{Object}
use Rattle.fab_base.specs.declared.object.Oid.{Oid}
use Rattle.fab_base.specs.declared.object.Tid.{Tid}
use Rattle.fab_base.specs.declared.message.Items.{Items}
use Rattle.fab_base.specs.FlatMap.{FlatMap, get, is_same, put, put_all}
use Rattle.fab_language.specs.Heaps.{touched}
use Rattle.fab_language.specs.Meaning.{Meant}
use Rattle.fab_laws.specs.Locality.{rows_among, with_changes}
use Rattle.fab_protocol.specs.declared.parts.Parts.{Parts}
use Rattle.fab_protocol.specs.Caches.{cached}
use Rattle.fab_protocol.specs.Parts.{items_at, puts_of, stores_of, touched_names}
use Rattle.fab_protocol.specs.Stores.{behind, named_by}
use Rattle.fab_protocol.specs.Tables.{OnlyOnce, placed, placed_all, row_of}
use Rattle.fab_protocol.specs.Versions.{Row, Rows, begun, left_by, name_of, names_of, objects_of, raised, version_of}
use Rattle.fab_protocol.proofs.TableLaws.{each_placed_all, row_of_name, row_of_placed, row_of_placed_all}
use Rattle.fab_protocol.proofs.VersionLaws.{changed_once, left_names}
use Rattle.fab_world.specs.Attempts.{parts_of}
use Rattle.fab_integrity.proofs.Invariant.{In}
use Rattle.fab_integrity.proofs.Items.{write_here}
use Rattle.fab_base.proofs.Names.{same_self}
use Rattle.fab_base.proofs.NameOrder.{one_name}
use Rattle.fab_integrity.proofs.Lists.{all_of, each_of, in_append, in_left, in_filter, in_filter_map, in_map, in_numbers, map_in, none_in}
use Rattle.fab_integrity.proofs.Maps.{get_put, row_listed}
use Rattle.fab_integrity.proofs.Replays.{made_from, made_part, touched_part, written_from}
use Rattle.fab_alone.proofs.Caches.{Cached, cached_behind}

-- the object of a row
abbrev pub object_in : Option Row → Option Object
object_in row = option_map (λ (r : Row). r.2) row

-- ---- rows placed in a table are objects put into a map

placed_content : (rs rows : Rows) (m : FlatMap) (o : Oid) → object_in (row_of name_of rows o) ≡ get m o
    → object_in (row_of name_of (placed_all name_of rs rows) o) ≡ get (put_all (objects_of rs) m) o
placed_content [] rows m o h = h
placed_content (r ∷ rs) rows m o h =
    placed_content rs (placed name_of r rows) (put r.0 r.2 m) o
    (ap object_in (row_of_placed name_of r rows o)
    ∙ elim (is_same r.0 o) as (λ b. object_in (if b then Some r else row_of name_of rows o) ≡ (if b then Some r.2 else get m o)) [ true ↦ refl | false ↦ h ]
    ∙ sym (get_put r.0 r.2 m o))

put_behind : (xs ys m : FlatMap) → put_all (xs ++ ys) m ≡ put_all ys (put_all xs m)
put_behind [] ys m = refl
put_behind (x ∷ xs) ys m = put_behind xs ys (put x.0 x.1 m)

-- under a name only the rows of its store count
put_here : (s : ℕ) (o : Oid) → o.store ≡ s → (rs m k : FlatMap) → get m o ≡ get k o
    → get (put_all (filter (λ (c : Oid × Object). c.0.store == s) rs) m) o ≡ get (put_all rs k) o
put_here s o at [] m k h = h
put_here s o at (r ∷ rs) m k h = elim (cases_eq r.0.store s) [
  | inl here ↦
      ap (λ b. get (put_all (cond b (r ∷ filter (λ (c : Oid × Object). c.0.store == s) rs) (filter (λ (c : Oid × Object). c.0.store == s) rs)) m) o)
      (eq-eqb r.0.store s here)
      ∙ put_here s o at rs (put r.0 r.1 m) (put r.0 r.1 k)
      (get_put r.0 r.1 m o ∙ ap (λ x. if is_same r.0 o then Some r.1 else x) h ∙ sym (get_put r.0 r.1 k o))
  | inr other ↦
      ap (λ b. get (put_all (cond b (r ∷ filter (λ (c : Oid × Object). c.0.store == s) rs) (filter (λ (c : Oid × Object). c.0.store == s) rs)) m) o)
      (ne_eqb r.0.store s other)
      ∙ put_here s o at rs m (put r.0 r.1 k)
      (h ∙ sym (get_put r.0 r.1 k o ∙ ap (λ b. if b then Some r.1 else get k o)
      (false_from_ne_true (is_same r.0 o) (λ e. other (ap (λ (p : Oid). p.store) (one_name r.0 o e) ∙ at)))))
]

writes_objects : (answers : Rows) (s : ℕ) (rows : FlatMap)
    → objects_of (map raised (filter (λ (w : Row). w.0.store == s) (map (λ (c : Oid × Object). (c.0, version_of answers c.0, c.1)) rows)))
    ≡ filter (λ (c : Oid × Object). c.0.store == s) rows
writes_objects answers s [] = refl
writes_objects answers s (c ∷ rows) =
    let ws : Rows = filter (λ (w : Row). w.0.store == s) (map (λ (c : Oid × Object). (c.0, version_of answers c.0, c.1)) rows) in
    let cs : FlatMap = filter (λ (c : Oid × Object). c.0.store == s) rows in
    elim (c.0.store == s) as (λ b. objects_of (map raised (cond b ((c.0, version_of answers c.0, c.1) ∷ ws) ws)) ≡ cond b (c ∷ cs) cs) [
      | true ↦ ap (λ xs. c ∷ xs) (writes_objects answers s rows)
      | false ↦ writes_objects answers s rows
    ]

begun_objects : (cs : FlatMap) → objects_of (map begun cs) ≡ cs
begun_objects [] = refl
begun_objects (c ∷ cs) = ap (λ xs. c ∷ xs) (begun_objects cs)

-- ---- what is left

left_from : (items : Items) (r : Row) → In r (left_by items)
    → ((w : Row) × In w items.writes × (r ≡ raised w)) ⊎ ((c : Oid × Object) × In c items.creates × (r ≡ begun c))
left_from items r h = elim (in_append r (map raised items.writes) (map begun items.creates) h) [
  | inl a ↦ inl (in_map raised r items.writes a)
  | inr b ↦ inr (in_map begun r items.creates b)
]

behind_one : (t : Tid) (items : Items) (rows : Rows) → behind ((t, items) ∷ []) rows ≡ placed_all name_of (left_by items) rows
behind_one t items rows = ap (λ rs. placed_all name_of rs rows) (append-nil (left_by items))

-- under a name that it doesn't leave there is what was there
unnamed : (t : Tid) (items : Items) (rows : Rows) (o : Oid) → ((r : Row) → In r (left_by items) → r.0 ≡ o → ⊥)
    → row_of name_of (behind ((t, items) ∷ []) rows) o ≡ row_of name_of rows o
unnamed t items rows o none =
    ap (λ rs. row_of name_of rs o) (behind_one t items rows)
    ∙ row_of_placed_all name_of (left_by items) rows o (all_of (λ (r : Row). IsFalse (is_same r.0 o)) (left_by items)
    (λ r i. false_from_ne_true (is_same r.0 o) (λ e. none r i (one_name r.0 o e))))

-- a write is there
raised_there : (t : Tid) (items : Items) (rows : Rows) → OnlyOnce (named_by items) → (w : Row) → In w items.writes
    → row_of name_of (behind ((t, items) ∷ []) rows) w.0 ≡ Some (raised w)
raised_there t items rows once w i =
    ap (λ rs. row_of name_of rs w.0) (behind_one t items rows)
    ∙ each_of (λ (r : Row). row_of name_of (placed_all name_of (left_by items) rows) r.0 ≡ Some r) (left_by items) (raised w)
    (each_placed_all name_of (left_by items) rows (subst OnlyOnce (sym (left_names items)) (changed_once items once)))
    (left_in (map raised items.writes) (map_in raised w items.writes i))
  where
    left_in : (xs : Rows) → In (raised w) xs → In (raised w) (xs ++ map begun items.creates)
    left_in xs h = in_left (raised w) xs (map begun items.creates) h

-- ---- what is put into caches

row_of_both : (xs ys : Rows) (o : Oid) (r : Row) → row_of name_of (xs ++ ys) o ≡ Some r
    → (row_of name_of xs o ≡ Some r) ⊎ ((row_of name_of xs o ≡ None) × (row_of name_of ys o ≡ Some r))
row_of_both [] ys o r h = inr (refl, h)
row_of_both (x ∷ xs) ys o r h =
    elim (is_same x.0 o) as (λ b. cond b (Some x) (row_of name_of (xs ++ ys) o) ≡ Some r
    → (cond b (Some x) (row_of name_of xs o) ≡ Some r) ⊎ ((cond b (Some x) (row_of name_of xs o) ≡ None) × (row_of name_of ys o ≡ Some r))) [
      | true ↦ λ e. inl e
      | false ↦ λ e. row_of_both xs ys o r e
    ] h

row_behind : (xs ys : Rows) (o : Oid) (r : Row) → row_of name_of ys o ≡ Some r → (q : Row) × (row_of name_of (xs ++ ys) o ≡ Some q)
row_behind [] ys o r h = (r, h)
row_behind (x ∷ xs) ys o r h =
    elim (is_same x.0 o) as (λ b. (q : Row) × (cond b (Some x) (row_of name_of (xs ++ ys) o) ≡ Some q)) [
      | true ↦ (x, refl)
      | false ↦ row_behind xs ys o r h
    ]

filter_map_in : (f : Oid → Option Row) (o : Oid) (r : Row) (os : List Oid) → In o os → f o ≡ Some r → In r (filter_map f os)
filter_map_in f o r [] i h = absurd i
filter_map_in f o r (p ∷ os) (inl e) h = subst (λ x. In r (cons_option x (filter_map f os))) (sym (ap f (sym e) ∙ h)) (inl refl)
filter_map_in f o r (p ∷ os) (inr i) h = by (f p) (filter_map_in f o r os i h)
  where
    by : (x : Option Row) → In r (filter_map f os) → In r (cons_option x (filter_map f os))
    by None g = g
    by (Some y) g = inr g

-- none of a name stands where there is no row of it
row_named : (rows : Rows) (o : Oid) (r : Row) → In r rows → r.0 ≡ o → row_of name_of rows o ≡ None → ⊥
row_named [] o r i e h = i
row_named (x ∷ xs) o r (inl same) e h =
    let here : is_same x.0 o ≡ true = subst (λ p. is_same p o ≡ true) (sym (ap (λ (z : Row). z.0) (sym same) ∙ e)) (same_self o) in
    none-some x (sym h ∙ ap (λ b. cond b (Some x) (row_of name_of xs o)) here)
row_named (x ∷ xs) o r (inr i) e h =
    elim (is_same x.0 o) as (λ b. cond b (Some x) (row_of name_of xs o) ≡ None → ⊥) [
      | true ↦ λ g. none-some x (sym g)
      | false ↦ λ g. row_named xs o r i e g
    ] h

-- ---- a commit

module _ (t : Tid) (answers : Rows) (m : Meant) (table : ℕ → Rows) where
  abbrev parts : Parts
  parts = parts_of answers m

  -- what a store has behind it
  abbrev pub table_behind : ℕ → Rows
  table_behind s = behind ((t, items_at parts s) ∷ []) (table s)

  -- the objects are those of the evaluation
  pub content_behind : (many : FlatMap) → ((o : Oid) → object_in (row_of name_of (table o.store) o) ≡ get many o)
      → (o : Oid) → object_in (row_of name_of (table_behind o.store) o) ≡ get (with_changes m many) o
  content_behind many content o =
      let s = o.store in
      let items = items_at parts s in
      let wrote = rows_among m.written m.map in
      let made = rows_among m.made m.map in
      ap (λ rows. object_in (row_of name_of rows o)) (behind_one t items (table s))
      ∙ placed_content (left_by items) (table s) many o (content o)
      ∙ ap (λ xs. get (put_all xs many) o)
      (map-append (λ (row : Row). (row.0, row.2)) (map raised items.writes) (map begun items.creates)
      ∙ ap (λ xs. xs ++ objects_of (map begun items.creates)) (writes_objects answers s wrote)
      ∙ ap (λ xs. filter (λ (c : Oid × Object). c.0.store == s) wrote ++ xs) (begun_objects items.creates))
      ∙ ap (λ k. get k o) (put_behind (filter (λ (c : Oid × Object). c.0.store == s) wrote) items.creates many)
      ∙ put_here s o refl made (put_all (filter (λ (c : Oid × Object). c.0.store == s) wrote) many) (put_all wrote many) (put_here s o refl wrote many many refl)

  module _ (written_touched : (o : Oid) → In o m.written → In o (touched m.touches)) where
    -- who takes no part keeps its table
    pub table_stays : (s : ℕ) → (In s (stores_of parts) → ⊥) → table_behind s ≡ table s
    table_stays s out =
        behind_one t (items_at parts s) (table s)
        ∙ ap (λ rs. placed_all name_of rs (table s)) (none_in (left_by (items_at parts s)) (λ r i. elim (left_from (items_at parts s) r i) [
          | inl a ↦
              let w : Row = a.0 in
              let f = in_filter (λ (x : Row). x.0.store == s) w parts.writes a.1 in
              let g = written_from answers m w f.0 in
              out (subst (λ z. In z (stores_of parts)) (eqb-true w.0.store s f.1)
              (in_numbers w.0.store (stores_of parts) (touched_part answers m w.0 (written_touched w.0 g.listed))))
          | inr b ↦
              let c : Oid × Object = b.0 in
              let f = in_filter (λ (x : Oid × Object). x.0.store == s) c parts.creates b.1 in
              out (subst (λ z. In z (stores_of parts)) (eqb-true c.0.store s f.1) (in_numbers c.0.store (stores_of parts) (made_part answers m c f.0)))
        ]))

    module _ (made_absent : (o : Oid) → In o m.made → row_of name_of (table o.store) o ≡ None)
        (touched_has : (o : Oid) → In o (touched m.touches) → (r : Row) × (row_of name_of answers o ≡ Some r) × (row_of name_of (table o.store) o ≡ Some r))
        (has : (r : Row) → In r answers → row_of name_of (table r.0.store) r.0 ≡ Some r)
        (once : (s : ℕ) → In s (stores_of parts) → OnlyOnce (named_by (items_at parts s))) where
      abbrev puts : Rows
      puts = puts_of answers parts

      -- a name of which no write is and that isn't made
      stays_there : (o : Oid) → ((w : Row) → In w parts.writes → w.0 ≡ o → ⊥) → (In o m.made → ⊥)
          → row_of name_of (table_behind o.store) o ≡ row_of name_of (table o.store) o
      stays_there o no_write no_make =
          unnamed t (items_at parts o.store) (table o.store) o (λ r i e. elim (left_from (items_at parts o.store) r i) [
            | inl a ↦
                let w : Row = a.0 in
                let f = in_filter (λ (x : Row). x.0.store == o.store) w parts.writes a.1 in
                no_write w f.0 (sym (ap (λ (x : Row). x.0) a.2) ∙ e)
            | inr b ↦
                let c : Oid × Object = b.0 in
                let f = in_filter (λ (x : Oid × Object). x.0.store == o.store) c parts.creates b.1 in
                let g = made_from answers m c f.0 in
                no_make (subst (λ p. In p m.made) (sym (ap (λ (x : Row). x.0) b.2) ∙ e) g.0)
          ])

      there_unmade : (o : Oid) (r : Row) → row_of name_of (table o.store) o ≡ Some r → In o m.made → ⊥
      there_unmade o r h i = none-some r (sym (made_absent o i) ∙ h)

      put_touched : (o : Oid) → In o (touched_names parts) → In o (touched m.touches)
      put_touched o i =
          let a = in_map (λ (x : Oid × ℕ). x.0) o parts.touched i in
          let b = in_map (λ (p : Oid). (p, version_of answers p)) a.0 (touched m.touches) a.1 in
          subst (λ p. In p (touched m.touches)) (sym (a.2 ∙ ap (λ (x : Oid × ℕ). x.0) b.2)) b.1

      touched_put : (o : Oid) → In o (touched m.touches) → In o (touched_names parts)
      touched_put o i =
          map_in (λ (x : Oid × ℕ). x.0) (o, version_of answers o) parts.touched (map_in (λ (p : Oid). (p, version_of answers p)) o (touched m.touches) i)

      -- what is put is what its table has
      put_there : (r : Row) → In r puts → row_of name_of (table_behind r.0.store) r.0 ≡ Some r
      put_there r i =
          let f = in_filter_map (row_of name_of (map raised parts.writes ++ answers)) r (touched_names parts) i in
          let name : r.0 ≡ f.0 = row_of_name name_of (map raised parts.writes ++ answers) f.0 r f.2 in
          let found : row_of name_of (map raised parts.writes ++ answers) r.0 ≡ Some r =
          subst (λ p. row_of name_of (map raised parts.writes ++ answers) p ≡ Some r) (sym name) f.2 in
          elim (row_of_both (map raised parts.writes) answers r.0 r found) [
            | inl a ↦
                let w = in_map raised r parts.writes (row_listed name_of (map raised parts.writes) r.0 r a) in
                let g = written_from answers m w.0 w.1 in
                subst (λ (x : Row). row_of name_of (table_behind x.0.store) x.0 ≡ Some x) (sym w.2)
                (raised_there t (items_at parts w.0.0.store) (table w.0.0.store)
                (once w.0.0.store (in_numbers w.0.0.store (stores_of parts) (touched_part answers m w.0.0 (written_touched w.0.0 g.listed)))) w.0
                (write_here parts w.0 w.1))
            | inr b ↦
                let listed = row_listed name_of answers r.0 r b.1 in
                stays_there r.0 (λ w j e. row_named (map raised parts.writes) r.0 (raised w) (map_in raised w parts.writes j) e b.0)
                (there_unmade r.0 r (has r listed)) ∙ has r listed
          ]

      -- and what was cached and isn't put is as it was
      old_there : (r : Row) → row_of name_of (table r.0.store) r.0 ≡ Some r → (In r.0 (names_of puts) → ⊥) → row_of name_of (table_behind r.0.store) r.0 ≡ Some r
      old_there r h new =
          stays_there r.0 (λ w j e.
          let g = written_from answers m w j in
          let i : In r.0 (touched m.touches) = subst (λ p. In p (touched m.touches)) e (written_touched w.0 g.listed) in
          let a = touched_has r.0 i in
          let q = row_behind (map raised parts.writes) answers r.0 a.0 a.1 in
          new (subst (λ p. In p (names_of puts)) (row_of_name name_of (map raised parts.writes ++ answers) r.0 q.0 q.1)
          (map_in name_of q.0 puts (filter_map_in (row_of name_of (map raised parts.writes ++ answers)) r.0 q.0 (touched_names parts) (touched_put r.0 i) q.1))))
          (there_unmade r.0 r h) ∙ h

      -- so the caches have what the tables have
      pub caches_behind : (k : ℕ) (caches : List Rows) → Cached (λ r. row_of name_of (table r.0.store) r.0 ≡ Some r) 0 caches
          → Cached (λ r. row_of name_of (table_behind r.0.store) r.0 ≡ Some r) 0 (cached k puts 0 caches)
      caches_behind k caches h =
          cached_behind (λ r. row_of name_of (table r.0.store) r.0 ≡ Some r) (λ r. row_of name_of (table_behind r.0.store) r.0 ≡ Some r) k puts put_there old_there 0 caches h
