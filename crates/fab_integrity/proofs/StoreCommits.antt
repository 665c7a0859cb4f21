-- A store outside D hears a Commit: what its sender prepared is applied, and each object stands as it is committed.
use Rattle.std.proofs.Common.{◌≡◌, ◌⊎◌, inl, inr, ℕ, ◌≤◌, Bool, true, false, not, IsTrue}
use Rattle.std.proofs.Common.{List, map, get_or, Some, Contains}
use Rattle.std.proofs.Common.{refl, sym, ap, ◌∙◌, subst, arith}
use Rattle.std.proofs.lemmas.Bool.{cases_Bool, both_ways}
use Rattle.fab_base.specs.declared.object.Oid.{Oid}
use Rattle.fab_base.specs.declared.object.Tid.{Tid}
use Rattle.fab_base.specs.declared.message.Items.{Items}
use Rattle.fab_base.specs.declared.entry.Entry.TheVariants as e
use Rattle.fab_base.specs.FlatMap.{is_among}
use Rattle.fab_net.specs.declared.note.Commit.{Commit}
use Rattle.fab_net.specs.declared.note.Note.{Note}
use Rattle.fab_rights.specs.Computed.{is_worker, may_write}
use Rattle.fab_protocol.specs.declared.said.Said.{Said}
use Rattle.fab_protocol.specs.Shelves.{AreApart, IsShelf, IsAllowed}
use Rattle.fab_protocol.specs.Stores.{Shelf, Prepared, changed_by}
use Rattle.fab_protocol.specs.Stores.{prepared_as, keeps}
use Rattle.fab_protocol.specs.Stores.{records, is_prepared}
use Rattle.fab_protocol.specs.Tables.{row_of}
use Rattle.fab_protocol.specs.Versions.{Row, name_of, version_of, raised, begun, left_by, is_tid}
use Rattle.fab_protocol.proofs.Commits.{written, made, unchanged, one_prepared}
use Rattle.fab_protocol.proofs.ShelfKept.{shelf_keeps}
use Rattle.fab_protocol.proofs.VersionLaws.{version_in, version_by_row, version_of_row, left_names}
use Rattle.fab_world.specs.Machine.{Setting, World, shelf, of_store}
use Rattle.fab_world.specs.Serial.{IsSetting, Excludes}
use Rattle.fab_integrity.proofs.Invariant.{In, Standing, tid_at, Open, Decided, State, committed}
use Rattle.fab_integrity.proofs.Invariant.{IsWorker, IsStore, Settled, CellOk, standing, Inv}
use Rattle.fab_integrity.proofs.Lists.{in_append, filter_in, in_map, map_in, any_in, each_of, contains_of}
use Rattle.fab_integrity.proofs.Worlds.{Lands}
use Rattle.fab_integrity.proofs.Tids.{tid_is}
use Rattle.fab_integrity.proofs.Maps.{version_committed, among_in, in_among}
use Rattle.fab_integrity.proofs.Deals.{deal_of}
use Rattle.fab_integrity.proofs.Items.{may_by_items}
use Rattle.fab_integrity.proofs.StoreEvents.{becomes, cells_here, fits_here, same_lasts, in_without, without_in}

-- of what is prepared one alone is of a tid
pub only_one : (ps : List Prepared) → AreApart ps → (p q : Prepared) → In p ps → In q ps → q.0 ≡ p.0 → q ≡ p
only_one ps apart p q there h same =
    ap (λ (found : List Prepared). get_or found 0 q)
    (sym (one_prepared q ps apart (contains_of q ps h)) ∙ ap (λ t. prepared_as t ps) same ∙ one_prepared p ps apart (contains_of p ps there))

module _ (S : Setting) (D ex : ℕ → Bool) (given : IsSetting S) (w v : World) (cs : List Commit) (C : State) (s : ℕ)
    (inv : Inv S D ex w cs C) (me : IsStore S D ex s) where
  abbrev now : Shelf
  now = shelf S w s

  abbrev at : ℕ → Standing
  at n = standing S D ex w cs n

  abbrev Keeps : Type 0
  Keeps = Inv S D ex v cs C

  abbrev Does : Said → Type 0
  Does said = Lands s (of_store S (w.node s).attempt said) w v

  ok : IsShelf S.rights s now
  ok = inv.store s me

  module _ (t : Tid) (items : Items) (said : IsWorker S D ex t.worker → Decided (at t.worker) t) (there : In (t, items) now.prepared) where
    abbrev after : Shelf
    after = keeps (e.Applied t) now

    has : Contains now.prepared (t, items)
    has = contains_of (t, items) now.prepared there

    stays : (q : Prepared) → In q after.prepared → In q now.prepared
    stays q h = in_without t q now.prepared h

    -- each row that it leaves is there
    left_row : (r : Row) → In r (left_by items) → row_of name_of after.rows r.0 ≡ Some r
    left_row r h = elim (in_append r (map raised items.writes) (map begun items.creates) h) [
      | inl a ↦
          let f = in_map raised r items.writes a in
          subst (λ (x : Row). row_of name_of after.rows x.0 ≡ Some x) (sym f.2)
          (written S.rights s now ok t items has f.0 (contains_of f.0 items.writes f.1))
      | inr b ↦
          let f = in_map begun r items.creates b in
          subst (λ (x : Row). row_of name_of after.rows x.0 ≡ Some x) (sym f.2)
          (made S.rights s now ok t items has f.0 (contains_of f.0 items.creates f.1))
    ]

    -- its worker may write what it leaves
    writable : (r : Row) → In r (left_by items) → IsTrue (may_write S.rights t.worker r.0.class)
    writable r h =
        each_of (λ (q : Row). IsTrue (may_write S.rights t.worker q.0.class)) (left_by items) r
        (may_by_items S.rights t.worker items (each_of (IsAllowed S.rights) now.prepared (t, items) ok.allowed there)) h

    from_prepared : IsTrue (is_worker S.rights t.worker)
    from_prepared = each_of (λ (q : Prepared). IsTrue (is_worker S.rights q.0.worker)) now.prepared (t, items) ok.senders there

    settled_so : D t.worker ≡ false → Settled S D ex cs (t, items)
    settled_so outside =
        let d = said (record { kind = from_prepared; outside = outside }) in
        record { outside = outside; commit = d.commit; listed = (deal_of cs t.worker d.commit d.listed).0; tid = d.tid }

    module _ (hyp : Excludes S D ex) where
      -- what it leaves is committed
      now_committed : (o : Oid) → ex o.class ≡ true → o.store ≡ s → (r : Row) → In r (left_by items) → r.0 ≡ o → committed C o ≡ Some r
      now_committed o x here r h same = elim (cases_Bool (D t.worker)) [
        | inl d ↦ absurd (both_ways (may_write S.rights t.worker o.class) (hyp.unwritten t.worker o.class d x)
            (subst (λ (y : Oid). IsTrue (may_write S.rights t.worker y.class)) same (writable r h)))
        | inr d ↦ let c = cells_here S D ex given w v cs C s inv me o x here in c.taken (t, items) there (settled_so d) r h same
      ]

      changes_or_not : (o : Oid) → ((r : Row) × In r (left_by items) × (r.0 ≡ o)) ⊎ (is_among o (changed_by items) ≡ false)
      changes_or_not o = elim (cases_Bool (is_among o (changed_by items))) [
        | inl is ↦
            let k = in_map name_of o (left_by items) (subst (In o) (sym (left_names items)) (among_in o (changed_by items) is)) in
            inl (k.0, k.1, sym k.2)
        | inr is ↦ inr is
      ]

      left_among : (r : Row) (o : Oid) → In r (left_by items) → r.0 ≡ o → is_among o (changed_by items) ≡ true
      left_among r o h same =
          in_among o (changed_by items) (subst (λ p. In p (changed_by items)) same (subst (In r.0) (left_names items) (map_in name_of r (left_by items) h)))

      applied_cell : (o : Oid) → ex o.class ≡ true → o.store ≡ s → ((r : Row) × In r (left_by items) × (r.0 ≡ o)) ⊎ (is_among o (changed_by items) ≡ false)
          → CellOk S D ex o cs after C
      applied_cell o x here (inl one) =
          let old = cells_here S D ex given w v cs C s inv me o x here in
          let full : committed C o ≡ Some one.0 = now_committed o x here one.0 one.1 one.2 in
          let row : row_of name_of after.rows o ≡ Some one.0 = subst (λ p. row_of name_of after.rows p ≡ Some one.0) one.2 (left_row one.0 one.1) in
          let same : row_of name_of after.rows o ≡ committed C o = row ∙ sym full in
          let version : version_of after.rows o ≡ C.version o = version_of_row after.rows o one.0 row ∙ sym (version_committed C o one.0 full) in
          record {
            below = omega (arith, version);
            equal = λ g. same;
            free = λ g. same;
            taken = λ q h. old.taken q (stays q h);
          }
      applied_cell o x here (inr none) =
          let old = cells_here S D ex given w v cs C s inv me o x here in
          let row : row_of name_of after.rows o ≡ row_of name_of now.rows o = unchanged S.rights s now ok t items has o none in
          let version : version_of after.rows o ≡ version_of now.rows o =
          version_by_row after.rows o ∙ ap version_in row ∙ sym (version_by_row now.rows o) in
          let low : version_of now.rows o ≤ C.version o = old.below in
          record {
            below = omega (arith, version, low);
            equal = λ g. row ∙ old.equal (sym version ∙ g);
            free = λ gone. row ∙ old.free (λ q h settled r g same. elim (cases_Bool (is_tid q.0 t)) [
              | inl is ↦
                  let its : In r (left_by items) = subst (λ (p : Prepared). In r (left_by p.1)) (only_one now.prepared ok.apart (t, items) q there h (tid_is q.0 t is)) g in
                  both_ways (is_among o (changed_by items)) none (left_among r o its same)
              | inr is ↦ gone q (filter_in (λ (p : Prepared). not (is_tid p.0 t)) q now.prepared h (ap not is)) settled r g same
            ]);
            taken = λ q h. old.taken q (stays q h);
          }

      keeps_applied : is_prepared t now ≡ true → (notes : List Note) → Does (records (e.Applied t) notes) → Keeps
      keeps_applied prepared notes lands =
          becomes S D ex given w v cs C s inv me (records (e.Applied t) notes) after refl lands (shelf_keeps S.rights s (e.Applied t) now given.workers prepared ok)
          (λ n worker u o h. record {
            items = h.items;
            listed = without_in t (u, h.items) now.prepared h.listed (λ same.
                let here : t ≡ tid_at n (at n) = sym same ∙ o.tid in
                let mine : t.worker ≡ n = ap (λ (x : Tid). x.worker) here in
                let worker_t : IsWorker S D ex t.worker = subst (λ k. IsWorker S D ex k) (sym mine) worker in
                let d = said worker_t in
                let k = inv.worker t.worker worker_t in
                let open_t : Open t.worker (at t.worker) t = subst (λ k. Open k (at k) t) (sym mine) (subst (λ x. Open n (at n) x) same o) in
                k.closed d.commit d.listed (subst (λ x. Open t.worker (at t.worker) x) (sym d.tid) open_t));
          })
          (λ n worker sent read h e. absurd h)
          (λ n worker u asked h. fits_here S D ex given w v cs C s inv me n worker u asked (stays (u, asked) h))
          (same_lasts S D ex given w v cs C s inv me after (λ n. refl))
          (λ o x here. applied_cell o x here (changes_or_not o))

  -- a Commit of what is prepared keeps what holds
  pub keeps_commit : Excludes S D ex → (t : Tid) → (IsWorker S D ex t.worker → Decided (at t.worker) t) → is_prepared t now ≡ true → (notes : List Note)
      → Does (records (e.Applied t) notes) → Keeps
  keeps_commit hyp t said prepared notes lands =
      let f = any_in (λ (p : Prepared). is_tid p.0 t) now.prepared prepared in
      let same : f.0.0 ≡ t = tid_is f.0.0 t f.2 in
      let there : In (t, f.0.1) now.prepared = subst (λ x. In (x, f.0.1) now.prepared) same f.1 in
      keeps_applied t f.0.1 said there hyp prepared notes lands
