-- The objects of a store are well formed, can be spelled, and have a maker: so they are behind each record that the store keeps.
use Rattle.std.proofs.Common.{◌≡◌, inl, inr, ℕ, suc, ◌<◌, ◌≤◌, ◌^◌, [], ◌∷◌, map, true, false, not, ◌==◌}
use Rattle.std.proofs.Common.{Option, Some, None, refl, sym, ap, ◌∙◌, subst, arith}
use Rattle.std.specs.Prelude.{IsFalse}
use Rattle.std.specs.List.{AllByRecursion, flat_map}
use Rattle.std.proofs.lemmas.Bool.{and_parts, cond_both, eqb-false, not-false, or_parts}
use Rattle.fab_base.specs.declared.entry.Entry.{Entry}
use Rattle.fab_base.specs.declared.entry.Entry.TheVariants as e
use Rattle.fab_base.specs.declared.object.Object.{Object}
use Rattle.fab_base.specs.declared.object.Oid.{Oid}
use Rattle.fab_base.specs.declared.object.Tid.{Tid}
use Rattle.fab_base.specs.FieldSpelling.{AreItems, IsCreate, IsObject, IsOid, IsTid, IsWrite, sent_version}
use Rattle.fab_base.proofs.Lists.{all_append, all_filter}
use Rattle.fab_rights.specs.declared.rights.Rights.{Rights}
use Rattle.fab_rights.specs.Computed.{suits}
use Rattle.fab_protocol.specs.Shelves.{IsCurrent, IsShelf, IsSuited}
use Rattle.fab_protocol.specs.Stores.{Item, Prepared, Shelf, Write, Create, all_in, is_unsuited, keeps, prepared_as}
use Rattle.fab_protocol.specs.Tables.{row_of}
use Rattle.fab_protocol.specs.Versions.{Row, begun, is_made_in, is_tid, left_by, name_of, raised, risen, version_of}
use Rattle.fab_protocol.proofs.TableLaws.{all_placed_all, row_of_all, row_of_name}
use Rattle.fab_protocol.proofs.VersionLaws.{left_versions, version_in, version_by_row}
use Rattle.fab_integrity.proofs.Invariant.{In}
use Rattle.fab_integrity.proofs.Items.{in_creates, in_writes}
use Rattle.fab_integrity.proofs.Lists.{all_of, each_of, in_append, in_filter, in_flat, in_map}
use Rattle.fab_integrity.proofs.Tids.{tid_is}

-- an object with its version: well formed, within what messages can spell, and with a maker
pub record IsGood (rights : Rights) (Made : Oid → Type 0) (row : Row) : Type 0 where
  pub suited : suits rights row.0 row.2 ≡ true
  pub name : IsOid row.0
  pub object : IsObject sent_version row.2
  pub low : 1 ≤ row.1
  pub high : row.1 < 2 ^ 32
  pub made : Made row.0

-- what is prepared can be spelled
abbrev pub IsSpelled : Prepared → Type 0
IsSpelled p = IsTid p.0 × AreItems sent_version p.1

pub good_made : (rights : Rights) (P Q : Oid → Type 0) → ((o : Oid) → P o → Q o) → (row : Row) → IsGood rights P row → IsGood rights Q row
good_made rights P Q f row g =
    record { suited = g.suited; name = g.name; object = g.object; low = g.low; high = g.high; made = f row.0 g.made }

risen_fits : (version : ℕ) → version < 2 ^ 32 → risen version < 2 ^ 32
risen_fits version h = cond_both (version == 4294967295) version (suc version) (λ x. x < 2 ^ 32) (λ _. h)
    (λ other. let apart = eqb-false version 4294967295 other in omega (arith, h, apart))

module _ (rights : Rights) (Made : Oid → Type 0) (s : ℕ) (shelf : Shelf) (ok : IsShelf rights s shelf) where
  abbrev Good : Row → Type 0
  Good row = IsGood rights Made row

  -- what a record owes: what it prepares can be spelled, and what it makes has a maker
  abbrev pub Owes : Entry → Type 0
  Owes (e.Prepared t items) = IsSpelled (t, items)
  Owes (e.Applied t) = (o : Oid) → is_made_in t o ≡ true → Made o
  Owes _ = Unit {0}

  module _ (rows : AllByRecursion Good shelf.rows) (prepared : AllByRecursion IsSpelled shelf.prepared) where
    -- an object that has a version stands among the rows
    there : (o : Oid) → (version_of shelf.rows o ≡ 0 → ⊥) → (found : Option Row) → row_of name_of shelf.rows o ≡ found → Made o
    there o some None is = absurd (some (version_by_row shelf.rows o ∙ ap version_in is))
    there o some (Some row) is =
        let good : Good row = row_of_all name_of Good shelf.rows o row rows is in
        subst Made (row_of_name name_of shelf.rows o row is) good.made

    module _ (p : Prepared) (i : In p shelf.prepared) where
      suited_item : (item : Item) → In item (all_in p.1) → is_unsuited rights p.0 item ≡ false
      suited_item item h =
          each_of (λ x. IsFalse (is_unsuited rights p.0 x)) (all_in p.1) item (each_of (IsSuited rights) shelf.prepared p ok.suited i) h

      current_item : (item : Item) → In item (all_in p.1) → IsCurrent shelf item
      current_item item h =
          each_of (IsCurrent shelf) (all_in p.1) item
          (each_of (λ (q : Prepared). AllByRecursion (IsCurrent shelf) (all_in q.1)) shelf.prepared p ok.current i) h

      spelled_here : AreItems sent_version p.1
      spelled_here = (each_of IsSpelled shelf.prepared p prepared i).1

      -- what it writes, as it is behind the commit
      good_write : (x : Row) → In x p.1.writes → 1 ≤ risen x.1 → Good (raised x)
      good_write x h low =
          let are = spelled_here in
          let write : IsWrite sent_version x = each_of (IsWrite sent_version) p.1.writes x are.writes h in
          let stale = or_parts (version_of shelf.rows x.0 == 0) (not (x.1 == version_of shelf.rows x.0)) (current_item (Write x.0 x.1 x.2) (in_writes p.1 x h)) in
          record {
            suited = not-false (suits rights x.0 x.2) (suited_item (Write x.0 x.1 x.2) (in_writes p.1 x h));
            name = write.oid;
            object = write.object;
            low = low;
            high = risen_fits x.1 write.read;
            made = there x.0 (eqb-false (version_of shelf.rows x.0) 0 stale.0) (row_of name_of shelf.rows x.0) refl;
          }

      good_create : (c : Oid × Object) → In c p.1.creates → ((o : Oid) → is_made_in p.0 o ≡ true → Made o) → Good (begun c)
      good_create c h made =
          let are = spelled_here in
          let create : IsCreate sent_version c = each_of (IsCreate sent_version) p.1.creates c are.creates h in
          let both = and_parts (suits rights c.0 c.1) (is_made_in p.0 c.0) (not-false _ (suited_item (Create c.0 c.1) (in_creates p.1 c h))) in
          record { suited = both.0; name = create.oid; object = create.object; low = omega arith; high = omega arith; made = made c.0 both.1 }

      good_left : ((o : Oid) → is_made_in p.0 o ≡ true → Made o) → (r : Row) → In r (left_by p.1) → Good r
      good_left made r h =
          let low : 1 ≤ r.1 = each_of (λ (x : Row). 1 ≤ x.1) (left_by p.1) r (left_versions p.1) h in
          elim (in_append r (map raised p.1.writes) (map begun p.1.creates) h) [
            | inl a ↦
                let f = in_map raised r p.1.writes a in
                subst Good (sym f.2) (good_write f.0 f.1 (subst (λ (x : Row). 1 ≤ x.1) f.2 low))
            | inr b ↦ let f = in_map begun r p.1.creates b in subst Good (sym f.2) (good_create f.0 f.1 made)
          ]

    applied_rows : (t : Tid) → ((o : Oid) → is_made_in t o ≡ true → Made o) → AllByRecursion Good (keeps (e.Applied t) shelf).rows
    applied_rows t made =
        all_placed_all name_of Good (flat_map (λ (p : Prepared). left_by p.1) (prepared_as t shelf.prepared)) shelf.rows
        (all_of Good (flat_map (λ (p : Prepared). left_by p.1) (prepared_as t shelf.prepared)) (λ r h.
        let f = in_flat (λ (p : Prepared). left_by p.1) r (prepared_as t shelf.prepared) h in
        let g = in_filter (λ (p : Prepared). is_tid p.0 t) f.0 shelf.prepared f.1 in
        good_left f.0 g.0 (λ o own. made o (subst (λ u. is_made_in u o ≡ true) (tid_is f.0.0 t g.1) own)) r f.2))
        rows

    pub kept_rows : (entry : Entry) → Owes entry → AllByRecursion Good (keeps entry shelf).rows
    kept_rows (e.Applied t) owes = applied_rows t owes
    kept_rows (e.Prepared t items) owes = rows
    kept_rows (e.Refused t) owes = rows
    kept_rows (e.Released t) owes = rows
    kept_rows (e.BootSeen w b) owes = rows
    kept_rows (e.Decided t request value stores) owes = rows
    kept_rows (e.Closed request code node) owes = rows
    kept_rows (e.Boot b) owes = rows

    pub kept_prepared : (entry : Entry) → Owes entry → AllByRecursion IsSpelled (keeps entry shelf).prepared
    kept_prepared (e.Prepared t items) owes = all_append IsSpelled shelf.prepared ((t, items) ∷ []) prepared (owes, tt)
    kept_prepared (e.Applied t) owes = all_filter IsSpelled (λ (p : Prepared). not (is_tid p.0 t)) shelf.prepared prepared
    kept_prepared (e.Released t) owes = all_filter IsSpelled (λ (p : Prepared). not (is_tid p.0 t)) shelf.prepared prepared
    kept_prepared (e.BootSeen w b) owes = all_filter IsSpelled (λ (p : Prepared). not (p.0.worker == w)) shelf.prepared prepared
    kept_prepared (e.Refused t) owes = prepared
    kept_prepared (e.Decided t request value stores) owes = prepared
    kept_prepared (e.Closed request code node) owes = prepared
    kept_prepared (e.Boot b) owes = prepared
