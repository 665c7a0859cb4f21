-- What a commit of a worker outside the set leaves at the stores that take part: it is prepared there, one version above the current one,
-- and nothing that is decided before leaves it.
use Rattle.std.proofs.Common.{◌≡◌, ◌⊎◌, inl, inr, ℕ, suc, ◌<◌, ◌≤◌, IsTrue, IsFalse, List, [], ◌++◌, map, Some, refl, sym, ap, ◌∙◌, subst, true≢false, arith}
use Rattle.std.specs.Prelude.{◌==◌}
use Rattle.std.specs.List.{AllByRecursion}
use Rattle.std.proofs.lemmas.Bool.{ltb-false}
use Rattle.std.proofs.lemmas.Option.{same_Some}
use Rattle.fab_base.specs.declared.message.Items.{Items}
use Rattle.fab_base.specs.declared.object.Object.{Object}
use Rattle.fab_base.specs.declared.object.Oid.{Oid}
use Rattle.fab_base.specs.declared.object.Tid.{Tid}
use Rattle.fab_base.specs.FlatMap.{is_among}
use Rattle.fab_language.specs.Heaps.{touched}
use Rattle.fab_language.specs.Meaning.{Meant}
use Rattle.fab_net.specs.declared.note.Commit.{Commit}
use Rattle.fab_net.specs.declared.note.Logged.{Logged}
use Rattle.fab_protocol.specs.declared.parts.Parts.{Parts}
use Rattle.fab_protocol.specs.Parts.{stores_of, items_at}
use Rattle.fab_protocol.specs.Shelves.{IsCurrent}
use Rattle.fab_protocol.specs.Stores.{Item, Prepared, Write, Create, all_in, item_name, named_by, out_of_date}
use Rattle.fab_protocol.specs.Tables.{row_of, OnlyOnce}
use Rattle.fab_protocol.specs.Versions.{Row, Rows, begun, left_by, name_of, raised, version_of}
use Rattle.fab_protocol.proofs.VersionLaws.{changed_once, left_names}
use Rattle.fab_world.specs.Machine.{Setting, World, shelf}
use Rattle.fab_world.specs.Workers.{is_in}
use Rattle.fab_release.specs.Sights.{Sight, Public}
use Rattle.fab_release.specs.Replay.{Rebuilt}
use Rattle.fab_isolation.specs.Law.{IsShared}
use Rattle.fab_integrity.proofs.Invariant.{Has, In, IsStore, IsWorker, Open, Settled, Standing, TakesPart, current, limit, meant_by, parts_by, rank_of, standing, tid_at}
use Rattle.fab_integrity.proofs.Deals.{in_deals}
use Rattle.fab_integrity.proofs.Items.{create_here, in_creates, in_writes, locks_out, write_here}
use Rattle.fab_integrity.proofs.Lists.{each_of, in_append, in_filter, in_left, in_map, in_right, map_in}
use Rattle.fab_integrity.proofs.Maps.{among_in, row_once}
use Rattle.fab_integrity.proofs.Replays.{fresh_is, made_part, risen_is, touched_part, written_from}
use Rattle.fab_shadow.proofs.Shadow.{never, Stands}
use Rattle.fab_shadow.proofs.Here.{worker_ok}

too_late : (a b l : ℕ) → a ≡ b → a < l → l ≤ b → ⊥
too_late a b l e low high = omega (arith, e, low, high)

above_none : (version current : ℕ) → version ≡ 1 → current ≤ 0 → version ≡ suc current
above_none version current e low = omega (arith, e, low)

module _ (S : Setting) (sight : Sight) (P : Public) (shared : IsShared S sight P) (w : World) (log : List Logged) (cs : List Commit) (k : Rebuilt)
    (stands : Stands S sight P w log cs k) (n : ℕ) (me : IsWorker S sight.has never n) where
  abbrev st : Standing
  st = standing S sight.has never w cs n

  abbrev c : Commit
  c = current S n st

  abbrev own : Tid
  own = tid_at n st

  abbrev full : Meant
  full = meant_by S c

  abbrev whole : Parts
  whole = parts_by S c

  -- ---- what it leaves, and where

  -- all of it
  abbrev pub left_in_all : Rows
  left_in_all = map raised whole.writes ++ map begun whole.creates

  -- at its store a row is what an item leaves, one above the version that the item asks for
  pub record IsLeft (r : Row) : Type 0 where
    pub part : TakesPart S r.0.store c
    pub item : Item
    pub listed : In item (all_in (items_at whole r.0.store))
    pub name : item_name item ≡ r.0
    pub left : In r (left_by (items_at whole r.0.store))
    pub next : (rows : Rows) → IsFalse (out_of_date rows item).0 → version_of rows r.0 < 4294967295 → r.1 ≡ suc (version_of rows r.0)

  written_left : (x : Row) → In x whole.writes → IsLeft (raised x)
  written_left x i =
      let g = written_from c.answers full x i in
      let there = write_here whole x i in
      let items = items_at whole x.0.store in
      record {
        part = touched_part c.answers full x.0 (among_in x.0 (touched full.touches)
            (each_of (λ o. IsTrue (is_among o (touched full.touches))) full.written x.0 (shared.evaluates.written n c.request own _) g.listed));
        item = Write x.0 x.1 x.2;
        listed = in_writes items x there;
        name = refl;
        left = in_left (raised x) (map raised items.writes) (map begun items.creates) (map_in raised x items.writes there);
        next = λ rows date low.
            let now = (fresh_is (version_of rows x.0) x.1 date).0 in
            risen_is x.1 (subst (λ v. v < 4294967295) (sym now) low) ∙ ap suc now;
      }

  made_left : (x : Oid × Object) → In x whole.creates → IsLeft (begun x)
  made_left x i =
      let there = create_here whole x i in
      let items = items_at whole x.0.store in
      record {
        part = made_part c.answers full x i;
        item = Create x.0 x.1;
        listed = in_creates items x there;
        name = refl;
        left = in_right (begun x) (map raised items.writes) (map begun items.creates) (map_in begun x items.creates there);
        next = λ rows date low. above_none 1 (version_of rows x.0) refl (ltb-false 0 (version_of rows x.0) date);
      }

  pub is_left : (r : Row) → In r left_in_all → IsLeft r
  is_left r i = elim (in_append r (map raised whole.writes) (map begun whole.creates) i) [
    | inl a ↦ let x = in_map raised r whole.writes a in subst IsLeft (sym x.2) (written_left x.0 x.1)
    | inr b ↦ let x = in_map begun r whole.creates b in subst IsLeft (sym x.2) (made_left x.0 x.1)
  ]

  -- what the items of one store leave it leaves
  pub left_whole : (s : ℕ) (r : Row) → In r (left_by (items_at whole s)) → In r left_in_all
  left_whole s r i =
      let items = items_at whole s in
      elim (in_append r (map raised items.writes) (map begun items.creates) i) [
        | inl a ↦
            let x = in_map raised r items.writes a in
            in_left r (map raised whole.writes) (map begun whole.creates)
            (subst (λ z. In z (map raised whole.writes)) (sym x.2) (map_in raised x.0 whole.writes (in_filter (λ (y : Row). y.0.store == s) x.0 whole.writes x.1).0))
        | inr b ↦
            let x = in_map begun r items.creates b in
            in_right r (map raised whole.writes) (map begun whole.creates)
            (subst (λ z. In z (map begun whole.creates)) (sym x.2) (map_in begun x.0 whole.creates (in_filter (λ (y : Oid × Object). y.0.store == s) x.0 whole.creates x.1).0))
      ]

  -- ---- it is prepared by all that take part, or nobody takes part

  module _ (ready : (Open n st own) ⊎ ((limit st ≤ rank_of own) × (stores_of whole ≡ [])))
      (all : (s : ℕ) → IsStore S sight.has never s → TakesPart S s c → Has S (shelf S w s) own) where
    -- it isn't decided yet
    undecided : (d : Commit) → In d cs → d.tid ≡ own → ⊥
    undecided d i e =
        let ok = worker_ok S sight P shared w log cs k stands n me in
        let here : In d st.deals = in_deals cs n d i (sym (stands.holds.inv.commits.own d i) ∙ ap (λ (t : Tid). t.worker) e) in
        elim ready [
          | inl opened ↦ ok.closed d here (subst (Open n st) (sym e) opened)
          | inr late ↦ too_late (rank_of d.tid) (rank_of own) (limit st) (ap rank_of e) (ok.past d here) late.0
        ]

    -- what is prepared of it is the items of the store
    pub prepared_there : (s : ℕ) → IsStore S sight.has never s → TakesPart S s c → In (own, items_at whole s) (shelf S w s).prepared
    prepared_there s hs part =
        let h = all s hs part in
        let f = (stands.holds.inv.pair n s me hs).kept own h.items h.listed refl in
        elim ready [
          | inl opened ↦ subst (λ (is : Items). In (own, is) (shelf S w s).prepared) (f.items c (inl (opened, refl))) h.listed
          | inr late ↦ absurd (true≢false (sym part ∙ ap (is_in s) late.1))
        ]

    pub prepared_items : (s : ℕ) → IsStore S sight.has never s → (q : Prepared) → In q (shelf S w s).prepared → q.0 ≡ own → q.1 ≡ items_at whole s
    prepared_items s hs q i e =
        let f = (stands.holds.inv.pair n s me hs).kept q.0 q.1 i (ap (λ (t : Tid). t.worker) e) in
        elim ready [
          | inl opened ↦ f.items c (inl (subst (Open n st) (sym e) opened, refl))
          | inr late ↦ absurd (too_late (rank_of q.0) (rank_of own) (limit st) (ap rank_of e) f.early late.0)
        ]

    module _ (r : Row) (i : In r left_in_all) (hs : IsStore S sight.has never r.0.store) where
      it : IsLeft r
      it = is_left r i

      mine : In (own, items_at whole r.0.store) (shelf S w r.0.store).prepared
      mine = prepared_there r.0.store hs it.part

      -- nothing that is decided before leaves an object of its name
      pub left_by_none : (q : Prepared) → In q (shelf S w r.0.store).prepared → Settled S sight.has never cs q → (x : Row) → In x (left_by q.1) → x.0 ≡ r.0 → ⊥
      left_by_none q listed settled x leaves e =
          let same : q.0 ≡ own =
          sym (ap (λ (p : Prepared). p.0) (locks_out (shelf S w r.0.store).prepared (own, items_at whole r.0.store) q it.item x (stands.holds.inv.store r.0.store hs).apart
          mine listed it.listed leaves (e ∙ sym it.name))) in
          undecided settled.commit settled.listed (settled.tid ∙ same)

      -- it is one above the version that is there
      pub left_next : r.1 ≡ suc (version_of (shelf S w r.0.store).rows r.0)
      left_next =
          it.next (shelf S w r.0.store).rows
          (each_of (IsCurrent (shelf S w r.0.store)) (all_in (items_at whole r.0.store)) it.item
          (each_of (λ (p : Prepared). AllByRecursion (IsCurrent (shelf S w r.0.store)) (all_in p.1)) (shelf S w r.0.store).prepared (own, items_at whole r.0.store)
          (stands.holds.inv.store r.0.store hs).current mine) it.listed)
          (stands.low r.0.store hs r.0)

      names_once : OnlyOnce (map name_of (left_by (items_at whole r.0.store)))
      names_once =
          subst OnlyOnce (sym (left_names (items_at whole r.0.store))) (changed_once (items_at whole r.0.store)
          (each_of (λ (p : Prepared). OnlyOnce (named_by p.1)) (shelf S w r.0.store).prepared (own, items_at whole r.0.store) (stands.holds.inv.store r.0.store hs).once mine))

      -- and the only one of its name
      pub left_once : (q : Row) → In q left_in_all → q.0 ≡ r.0 → q ≡ r
      left_once q j e =
          let there : In q (left_by (items_at whole r.0.store)) = subst (λ (o : Oid). In q (left_by (items_at whole o.store))) e (is_left q j).left in
          same_Some q r
          (sym (subst (λ o. row_of name_of (left_by (items_at whole r.0.store)) o ≡ Some q) e (row_once name_of (left_by (items_at whole r.0.store)) q names_once there))
          ∙ row_once name_of (left_by (items_at whole r.0.store)) r names_once it.left)
