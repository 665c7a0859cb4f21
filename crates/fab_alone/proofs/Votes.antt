-- A Prepare against which nothing speaks is answered with Yes.
use Rattle.std.proofs.Common.{◌≡◌, ◌⊎◌, inl, inr, ℕ, List, [], ◌∷◌, ◌++◌, map, Bool, true, false, not, ◌&&◌, ◌||◌, ◌==◌, IsTrue, IsFalse}
use Rattle.std.proofs.Common.{Option, Some, None, nat_lt, refl, sym, ap, ◌∙◌, subst}
use Rattle.std.specs.List.{AllByRecursion, filter}
use Rattle.std.proofs.lemmas.Bool.{and_parts, both_ways, eq-eqb, eqb-true, false_from_ne_true, not-true, or_from}
use Rattle.fab_base.specs.declared.object.Object.{Object}
use Rattle.fab_base.specs.declared.object.Oid.{Oid}
use Rattle.fab_base.specs.declared.object.Tid.{Tid}
use Rattle.fab_base.specs.declared.message.Answer.{Answer}
use Rattle.fab_base.specs.declared.message.Answer.TheVariants.{Yes, Locked}
use Rattle.fab_base.specs.declared.message.Items.{Items}
use Rattle.fab_base.specs.FlatMap.{is_among}
use Rattle.fab_base.specs.FlatMap as flat
use Rattle.fab_base.proofs.Lists.{all_append, all_map}
use Rattle.fab_language.specs.Heaps.{touched}
use Rattle.fab_language.specs.Meaning.{Meant}
use Rattle.fab_rights.specs.declared.rights.Rights.{Rights}
use Rattle.fab_rights.specs.Computed.{knows, may_fetch, may_write, suits}
use Rattle.fab_protocol.specs.declared.parts.Parts.{Parts}
use Rattle.fab_protocol.specs.Parts.{is_only_read, items_at}
use Rattle.fab_protocol.specs.Stores.{Item, Prepared, Read, Shelf, Write, Create, creates_in, is_locked_by, is_out_of_order, is_stale, is_unsuited, item_name, lacks_right}
use Rattle.fab_protocol.specs.Stores.{out_of_date, reads_in, reasons_in, reasons_of, vote, writes_in}
use Rattle.fab_protocol.specs.Tables.{ascends}
use Rattle.fab_protocol.specs.Versions.{Row, Rows, is_made_in, name_of, names_of, version_of}
use Rattle.fab_protocol.proofs.Reasons.{yes_exactly}
use Rattle.fab_protocol.proofs.ShelfKept.{as_table}
use Rattle.fab_protocol.proofs.TableLaws.{all_placed_all, ascends_filter, ascends_map, ascends_placed_all, leads, parted}
use Rattle.fab_world.specs.Attempts.{parts_of}
use Rattle.fab_integrity.proofs.Invariant.{In}
use Rattle.fab_integrity.proofs.Lists.{all_of, each_of, in_append, in_filter, in_map, map_in}
use Rattle.fab_integrity.proofs.Maps.{among_in, in_among, key}
use Rattle.fab_integrity.proofs.Replays.{IsWritten, made_from, written_from}

-- ---- the reasons of a list

module _ (rights : Rights) (s n : ℕ) (t : Tid) (shelf : Shelf) (free : shelf.prepared ≡ []) where
  -- nothing speaks against an item by itself
  pub record IsFine (earlier : List Oid) (i : Item) : Type 0 where
    pub here : (item_name i).store ≡ s
    pub known : knows rights (item_name i).class ≡ true
    pub another : is_among (item_name i) earlier ≡ false
    pub suited : is_unsuited rights t i ≡ false
    pub allowed : lacks_right rights n i ≡ false
    pub current : (out_of_date shelf.rows i).0 ≡ false

  abbrev AreFalse : List (Bool × Answer) → Type 0
  AreFalse rs = AllByRecursion (λ (r : Bool × Answer). IsFalse r.0) rs

  not_false : (b : Bool) → b ≡ true → not b ≡ false
  not_false true e = refl
  not_false false e = sym e

  none_of : (earlier : List Oid) (before : Option Oid) (i : Item) → IsFine earlier i → is_out_of_order before (item_name i) ≡ false
      → AreFalse (reasons_of rights s n t shelf earlier before i)
  none_of earlier before i fine order =
      let a = not ((item_name i).store == s) in
      let b = not (knows rights (item_name i).class) in
      let c = is_out_of_order before (item_name i) in
      let d = is_among (item_name i) earlier in
      let ab = or_from a b (not_false ((item_name i).store == s) (eq-eqb (item_name i).store s fine.here)) (not_false (knows rights (item_name i).class) fine.known) in (
        or_from (a || b || c || d) (is_unsuited rights t i) (or_from (a || b || c) d (or_from (a || b) c ab order) fine.another) fine.suited,
        (fine.allowed, (fine.current, subst (λ ps. AreFalse (map (λ (p : Prepared). (is_locked_by i p.1, Locked p.0)) ps)) (sym free) tt)),
      )

  -- the items stand behind this name
  abbrev Led : Option Oid → List Item → Type 0
  Led None is = Unit {0}
  Led (Some o) is = IsTrue (leads item_name o is)

  in_order : (before : Option Oid) (i : Item) (is : List Item) → Led before (i ∷ is) → is_out_of_order before (item_name i) ≡ false
  in_order None i is h = refl
  in_order (Some o) i is h = ap not h

  none_in : (earlier : List Oid) (before : Option Oid) (is : List Item) → AllByRecursion (IsFine earlier) is → Led before is → IsTrue (ascends item_name is)
      → AreFalse (reasons_in rights s n t shelf earlier before is)
  none_in earlier before [] fine led up = tt
  none_in earlier before (i ∷ is) fine led up =
      let p = parted item_name i is up in
      all_append (λ (r : Bool × Answer). IsFalse r.0) (reasons_of rights s n t shelf earlier before i) (reasons_in rights s n t shelf earlier (Some (item_name i)) is)
      (none_of earlier before i fine.0 (in_order before i is led)) (none_in earlier (Some (item_name i)) is fine.1 p.0 p.1)

  -- nothing speaks against any
  pub record AreFine (items : Items) : Type 0 where
    pub reads : AllByRecursion (IsFine []) (reads_in items)
    pub writes : AllByRecursion (IsFine (map item_name (reads_in items))) (writes_in items)
    pub creates : AllByRecursion (IsFine (map item_name (reads_in items ++ writes_in items))) (creates_in items)
    pub reads_up : IsTrue (ascends item_name (reads_in items))
    pub writes_up : IsTrue (ascends item_name (writes_in items))
    pub creates_up : IsTrue (ascends item_name (creates_in items))

  pub fine_is_yes : (items : Items) → AreFine items → vote rights s n t items shelf ≡ Yes
  fine_is_yes items fine =
      let rs = reasons_in rights s n t shelf [] None (reads_in items) in
      let ws = reasons_in rights s n t shelf (map item_name (reads_in items)) None (writes_in items) in
      let cs = reasons_in rights s n t shelf (map item_name (reads_in items ++ writes_in items)) None (creates_in items) in
      (yes_exactly rights s n t shelf items).1
      (all_append (λ (r : Bool × Answer). IsFalse r.0) (rs ++ ws) cs
      (all_append (λ (r : Bool × Answer). IsFalse r.0) rs ws (none_in [] None (reads_in items) fine.reads tt fine.reads_up)
      (none_in (map item_name (reads_in items)) None (writes_in items) fine.writes tt fine.writes_up))
      (none_in (map item_name (reads_in items ++ writes_in items)) None (creates_in items) fine.creates tt fine.creates_up))

  -- ---- the items of an evaluation

  -- of an object that was touched: here, with the right, and as it is answered
  pub record IsReadable (answers : Rows) (o : Oid) : Type 0 where
    pub known : knows rights o.class ≡ true
    pub allowed : may_fetch rights n o.class ≡ true
    pub current : is_stale (version_of shelf.rows o) (version_of answers o) ≡ false

  pub record IsWritable (o : Oid) (x : Object) : Type 0 where
    pub known : knows rights o.class ≡ true
    pub suited : suits rights o x ≡ true
    pub allowed : may_write rights n o.class ≡ true

  -- of an object that was made: it is new
  pub record IsNew (touches : List Oid) (o : Oid) : Type 0 where
    pub made : is_made_in t o ≡ true
    pub untouched : is_among o touches ≡ false
    pub absent : version_of shelf.rows o ≡ 0

  module _ (answers : Rows) (meant : Meant) (up : IsTrue (flat.ascends meant.map))
      (read : (o : Oid) → In o (touched meant.touches) → o.store ≡ s → IsReadable answers o)
      (change : (o : Oid) (x : Object) → In o meant.written ⊎ In o meant.made → In (o, x) meant.map → IsWritable o x)
      (known : (o : Oid) → In o meant.written → In o (touched meant.touches))
      (new : (o : Oid) → In o meant.made → o.store ≡ s → IsNew (touched meant.touches) o) where
    abbrev parts : Parts
    parts = parts_of answers meant

    abbrev items : Items
    items = items_at parts s

    abbrev asked : List (Oid × ℕ)
    asked = filter (λ (r : Oid × ℕ). (r.0.store == s) && is_only_read parts r.0) parts.touched

    record IsAsked (r : Oid × ℕ) : Type 0 where
      touched : In r.0 (touched meant.touches)
      version : r.1 ≡ version_of answers r.0
      here : r.0.store ≡ s
      only : is_among r.0 (names_of parts.writes) ≡ false

    was_asked : (r : Oid × ℕ) → In r asked → IsAsked r
    was_asked r i =
        let f = in_filter (λ (r : Oid × ℕ). (r.0.store == s) && is_only_read parts r.0) r parts.touched i in
        let g = and_parts (r.0.store == s) (is_only_read parts r.0) f.1 in
        let m = in_map (λ (o : Oid). (o, version_of answers o)) r (touched meant.touches) f.0 in
        record {
          touched = subst (λ (q : Oid × ℕ). In q.0 (touched meant.touches)) (sym m.2) m.1;
          version = subst (λ (q : Oid × ℕ). q.1 ≡ version_of answers q.0) (sym m.2) refl;
          here = eqb-true r.0.store s g.0;
          only = not-true (is_among r.0 (names_of parts.writes)) g.1;
        }

    all_asked : AllByRecursion IsAsked items.reads
    all_asked = all_placed_all (λ (r : Oid × ℕ). r.0) IsAsked asked [] (all_of IsAsked asked was_asked) tt

    reads_fine : AllByRecursion (IsFine []) (reads_in items)
    reads_fine =
        all_map (IsFine []) (λ (r : Oid × ℕ). Read r.0 r.1) items.reads (all_of (λ (r : Oid × ℕ). IsFine [] (Read r.0 r.1)) items.reads (λ r i.
        let a = each_of IsAsked items.reads r all_asked i in
        let g = read r.0 a.touched a.here in
        record {
          here = a.here;
          known = g.known;
          another = refl;
          suited = refl;
          allowed = not_false (may_fetch rights n r.0.class) g.allowed;
          current = subst (λ v. is_stale (version_of shelf.rows r.0) v ≡ false) (sym a.version) g.current;
        }))

    record IsWriteHere (w : Row) : Type 0 where
      listed : In w parts.writes
      here : w.0.store ≡ s
      written : IsWritten answers meant w

    write_here : (w : Row) → In w items.writes → IsWriteHere w
    write_here w i =
        let f = in_filter (λ (w : Row). w.0.store == s) w parts.writes i in
        record { listed = f.0; here = eqb-true w.0.store s f.1; written = written_from answers meant w f.0 }

    -- a name that is read alone isn't written
    not_read : (w : Row) → IsWriteHere w → is_among w.0 (map item_name (reads_in items)) ≡ false
    not_read w h = false_from_ne_true (is_among w.0 (map item_name (reads_in items))) (λ e.
        let i = in_map item_name w.0 (reads_in items) (among_in w.0 (map item_name (reads_in items)) e) in
        let r = in_map (λ (r : Oid × ℕ). Read r.0 r.1) i.0 items.reads i.1 in
        let a = each_of IsAsked items.reads r.0 all_asked r.1 in
        let same : w.0 ≡ r.0.0 = i.2 ∙ ap item_name r.2 in
        both_ways (is_among r.0.0 (names_of parts.writes)) a.only
        (in_among r.0.0 (names_of parts.writes) (subst (λ o. In o (names_of parts.writes)) same (map_in name_of w parts.writes h.listed))))

    writes_fine : AllByRecursion (IsFine (map item_name (reads_in items))) (writes_in items)
    writes_fine =
        all_map (IsFine (map item_name (reads_in items))) (λ (w : Row). Write w.0 w.1 w.2) items.writes
        (all_of (λ (w : Row). IsFine (map item_name (reads_in items)) (Write w.0 w.1 w.2)) items.writes (λ w i.
        let h = write_here w i in
        let written : IsWritten answers meant w = h.written in
        let g = read w.0 (known w.0 written.listed) h.here in
        let c = change w.0 w.2 (inl written.listed) written.object in
        record {
          here = h.here;
          known = g.known;
          another = not_read w h;
          suited = not_false (suits rights w.0 w.2) c.suited;
          allowed = not_false (may_write rights n w.0.class) c.allowed;
          current = subst (λ v. is_stale (version_of shelf.rows w.0) v ≡ false) (sym written.version) g.current;
        }))

    -- what stands before was touched, so it isn't new
    not_before : (o : Oid) → is_among o (touched meant.touches) ≡ false → is_among o (map item_name (reads_in items ++ writes_in items)) ≡ false
    not_before o untouched = false_from_ne_true (is_among o (map item_name (reads_in items ++ writes_in items))) (λ e.
        let i = in_map item_name o (reads_in items ++ writes_in items) (among_in o (map item_name (reads_in items ++ writes_in items)) e) in
        both_ways (is_among o (touched meant.touches)) untouched
        (in_among o (touched meant.touches) (subst (λ p. In p (touched meant.touches)) (sym i.2) (elim (in_append i.0 (reads_in items) (writes_in items) i.1) [
          | inl a ↦
              let r = in_map (λ (r : Oid × ℕ). Read r.0 r.1) i.0 items.reads a in
              let q = each_of IsAsked items.reads r.0 all_asked r.1 in
              subst (λ (z : Item). In (item_name z) (touched meant.touches)) (sym r.2) q.touched
          | inr b ↦
              let w = in_map (λ (w : Row). Write w.0 w.1 w.2) i.0 items.writes b in
              let h = write_here w.0 w.1 in
              let written : IsWritten answers meant w.0 = h.written in
              subst (λ (z : Item). In (item_name z) (touched meant.touches)) (sym w.2) (known w.0.0 written.listed)
        ]))))

    creates_fine : AllByRecursion (IsFine (map item_name (reads_in items ++ writes_in items))) (creates_in items)
    creates_fine =
        all_map (IsFine (map item_name (reads_in items ++ writes_in items))) (λ (c : Oid × Object). Create c.0 c.1) items.creates
        (all_of (λ (c : Oid × Object). IsFine (map item_name (reads_in items ++ writes_in items)) (Create c.0 c.1)) items.creates (λ c i.
        let f = in_filter (λ (c : Oid × Object). c.0.store == s) c parts.creates i in
        let m = made_from answers meant c f.0 in
        let here = eqb-true c.0.store s f.1 in
        let g = new c.0 m.0 here in
        let x = change c.0 c.1 (inr m.0) m.1 in
        record {
          here = here;
          known = x.known;
          another = not_before c.0 g.untouched;
          suited = not_false (suits rights c.0 c.1 && is_made_in t c.0) (and_both (suits rights c.0 c.1) (is_made_in t c.0) x.suited g.made);
          allowed = not_false (may_write rights n c.0.class) x.allowed;
          current = ap (nat_zero) g.absent;
        }))
      where
        and_both : (a b : Bool) → a ≡ true → b ≡ true → (a && b) ≡ true
        and_both true b e h = h
        and_both false b e h = e

        nat_zero : ℕ → Bool
        nat_zero v = nat_lt 0 v

    map_up : IsTrue (ascends key meant.map)
    map_up = as_table meant.map ∙ up

    pub evaluated_fine : AreFine items
    evaluated_fine = record {
      reads = reads_fine;
      writes = writes_fine;
      creates = creates_fine;
      reads_up = ascends_map item_name (λ (r : Oid × ℕ). r.0) (λ (r : Oid × ℕ). Read r.0 r.1) (λ r. refl) items.reads
          ∙ ascends_placed_all (λ (r : Oid × ℕ). r.0) asked [] refl;
      writes_up = ascends_map item_name name_of (λ (w : Row). Write w.0 w.1 w.2) (λ w. refl) items.writes
          ∙ ascends_filter name_of (λ (w : Row). w.0.store == s) parts.writes
          (ascends_map name_of key (λ (c : Oid × Object). (c.0, version_of answers c.0, c.1)) (λ c. refl) (filter (λ (c : Oid × Object). is_among c.0 meant.written) meant.map)
          ∙ ascends_filter key (λ (c : Oid × Object). is_among c.0 meant.written) meant.map map_up);
      creates_up = ascends_map item_name key (λ (c : Oid × Object). Create c.0 c.1) (λ c. refl) items.creates
          ∙ ascends_filter key (λ (c : Oid × Object). c.0.store == s) parts.creates
          (ascends_filter key (λ (c : Oid × Object). is_among c.0 meant.made) meant.map map_up);
    }
