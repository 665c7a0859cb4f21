-- What is held is what the commits come to.
use Rattle.std.specs.Prelude.{◌≡◌, ℕ, Bool, true, false, not, IsTrue, List, [], ◌∷◌, map, Option, Some, None, option_map}
use Rattle.std.specs.List.{filter, flat_map, range_with_len, AllByRecursion}
use Rattle.std.proofs.Common.{refl, sym, ap, ◌∙◌, subst, inl, inr, cond, arith}
use Rattle.std.proofs.lemmas.Bool.{both_ways, false_from_ne_true, not-true}
use Rattle.fab_base.specs.declared.object.Oid.{Oid}
use Rattle.fab_base.specs.declared.object.Object.{Object}
use Rattle.fab_base.specs.declared.object.Tid.{Tid}
use Rattle.fab_base.specs.FlatMap.{FlatMap, get, map_of, is_among, is_same}
use Rattle.fab_base.proofs.Names.{same_self}
use Rattle.fab_base.proofs.NameOrder.{one_name}
use Rattle.fab_base.proofs.Lists.{all_along, all_flat, all_filter}
use Rattle.fab_net.specs.declared.note.Commit.{Commit}
use Rattle.fab_rights.proofs.Bits.{bit_below, has_bit_exact}
use Rattle.fab_rights.specs.Computed.{is_store, stores_in, may_write}
use Rattle.fab_protocol.specs.declared.parts.Decision.{Decision}
use Rattle.fab_protocol.specs.Shelves.{IsAllowed}
use Rattle.fab_protocol.specs.Stores.{Prepared, item_name, all_in}
use Rattle.fab_protocol.specs.Tables.{row_of, placed, placed_all, ascends}
use Rattle.fab_protocol.specs.Versions.{Row, Rows, name_of, objects_of, left_by, is_tid}
use Rattle.fab_protocol.proofs.TableLaws.{row_of_placed, all_placed_all, ascends_placed_all}
use Rattle.fab_protocol.proofs.TableLaws.{ascends_once}
use Rattle.fab_protocol.proofs.Commits.{tid_itself}
use Rattle.fab_world.specs.Machine.{Setting, World, kept, shelf, is_decided, held_at}
use Rattle.fab_world.specs.Serial.{IsSetting, Excludes, within, held_map}
use Rattle.fab_integrity.proofs.Invariant.{In, State, committed, Inv, IsWorker, IsStore, CellOk, decision_of, deals}
use Rattle.fab_integrity.proofs.Lists.{in_filter, filter_in, in_map, map_in, any_in, in_any, each_of, in_flat, flat_in}
use Rattle.fab_integrity.proofs.Lists.{in_range}
use Rattle.fab_integrity.proofs.Maps.{put_all_other, put_all_one, same_maps, ascends_map_of, object_committed, row_once, row_listed, among_row, row_among}
use Rattle.std.proofs.lemmas.Option.{same_Some}
use Rattle.fab_integrity.proofs.Tids.{tid_is}
use Rattle.fab_integrity.proofs.Deals.{in_deals, deal_of, dealt}
use Rattle.fab_integrity.proofs.Items.{may_by_items, left_here}
use Rattle.fab_integrity.proofs.Frames.{sender_is, holder_is}

-- ---- tables

-- the last of the rows that are placed under a name, if they are one, and what was there if there is none
pub placed_all_is : (rs rows : Rows) (o : Oid) (x : Option Row) → ((r : Row) → In r rs → r.0 ≡ o → x ≡ Some r)
    → (((r : Row) → In r rs → r.0 ≡ o → ⊥) → row_of name_of rows o ≡ x) → row_of name_of (placed_all name_of rs rows) o ≡ x
placed_all_is [] rows o x each none = none (λ r h e. h)
placed_all_is (r ∷ rs) rows o x each none = placed_all_is rs (placed name_of r rows) o x (λ q h e. each q (inr h) e) (λ others.
    row_of_placed name_of r rows o ∙ here (is_same r.0 o) refl others)
  where
    here : (b : Bool) → is_same r.0 o ≡ b → ((q : Row) → In q rs → q.0 ≡ o → ⊥) → cond b (Some r) (row_of name_of rows o) ≡ x
    here true e others = sym (each r (inl refl) (one_name r.0 o e))
    here false e others = none (λ q h f. elim h [
      | inl same ↦ both_ways (is_same r.0 o) e (subst (λ p. is_same p o ≡ true) (sym (ap (λ (z : Row). z.0) (sym same) ∙ f)) (same_self o))
      | inr there ↦ others q there f
    ])

module _ (S : Setting) (D ex : ℕ → Bool) (given : IsSetting S) (hyp : Excludes S D ex) (w : World) (cs : List Commit) (C : State) (inv : Inv S D ex w cs C) where
  -- who may write an object of such a class is outside D
  changer_outside : (s : ℕ) → IsStore S D ex s → (p : Prepared) → In p (shelf S w s).prepared → (r : Row) → In r (left_by p.1) → ex r.0.class ≡ true
      → D p.0.worker ≡ false
  changer_outside s me p h r i x = false_from_ne_true (D p.0.worker) (λ d.
      both_ways (may_write S.rights p.0.worker r.0.class) (hyp.unwritten p.0.worker r.0.class d x)
      (each_of (λ (q : Row). IsTrue (may_write S.rights p.0.worker q.0.class)) (left_by p.1) r
      (may_by_items S.rights p.0.worker p.1 (each_of (IsAllowed S.rights) (shelf S w s).prepared p (inv.store s me).allowed h)) i))

  -- a tid is decided exactly where it is among the commits
  decided_is : (n : ℕ) → IsWorker S D ex n → (t : Tid) → t.worker ≡ n → is_decided S w t ≡ true → (c : Commit) × In c cs × (c.tid ≡ t)
  decided_is n me t e h =
      let a = any_in (λ (d : Decision). is_tid d.tid t) (kept S w t.worker).decided h in
      let b = dealt S (deals cs n) (kept S w t.worker).decided (ap (λ x. (kept S w x).decided) e ∙ (inv.worker n me).listed) a.0 a.1 in
      (b.commit, (deal_of cs n b.commit b.listed).0, sym (ap (λ (d : Decision). d.tid) b.same) ∙ tid_is (a.0).tid t a.2)

  is_decided_so : (n : ℕ) → IsWorker S D ex n → (t : Tid) → t.worker ≡ n → (c : Commit) → In c cs → c.tid ≡ t → is_decided S w t ≡ true
  is_decided_so n me t e c h same =
      let own : c.worker ≡ n = sym (inv.commits.own c h) ∙ ap (λ (x : Tid). x.worker) same ∙ e in
      let listed : In (decision_of S c) (kept S w t.worker).decided =
      subst (In (decision_of S c)) (sym (ap (λ x. (kept S w x).decided) e ∙ (inv.worker n me).listed))
      (map_in (decision_of S) c (deals cs n) (in_deals cs n c h own)) in
      in_any (λ (d : Decision). is_tid d.tid t) (decision_of S c) (kept S w t.worker).decided listed (subst (λ u. is_tid u t ≡ true) (sym same) (tid_itself t))

  -- the row that a store holds is the committed one
  pub held_row : (s : ℕ) → IsStore S D ex s → (o : Oid) → o.store ≡ s → ex o.class ≡ true → row_of name_of (held_at S w s) o ≡ committed C o
  held_row s me o at x =
      placed_all_is (flat_map (λ p. left_by p.1) (filter (λ p. is_decided S w p.0) (shelf S w s).prepared)) (shelf S w s).rows o (committed C o)
      (λ r h e.
      let f = in_flat (λ (p : Prepared). left_by p.1) r (filter (λ p. is_decided S w p.0) (shelf S w s).prepared) h in
      let g = in_filter (λ (p : Prepared). is_decided S w p.0) f.0 (shelf S w s).prepared f.1 in
      let out = changer_outside s me f.0 g.0 r f.2 (subst (λ p. ex p.class ≡ true) (sym e) x) in
      let d = decided_is (f.0).0.worker (sender_is S D ex w cs C inv s me f.0 g.0 out) (f.0).0 refl g.1 in
      cell.taken f.0 g.0 (record { outside = out; commit = d.0; listed = d.1; tid = d.2 }) r f.2 e)
      (λ none. cell.free (λ p h settled r i e.
      none r (flat_in (λ (p : Prepared). left_by p.1) r p (filter (λ p. is_decided S w p.0) (shelf S w s).prepared)
      (filter_in (λ (p : Prepared). is_decided S w p.0) p (shelf S w s).prepared h
      (is_decided_so p.0.worker (sender_is S D ex w cs C inv s me p h settled.outside) p.0 refl settled.commit settled.listed settled.tid)) i) e))
    where
      cell : CellOk S D ex o cs (shelf S w s) C
      cell = subst (λ z. CellOk S D ex o cs (shelf S w z) C) at (inv.cells o x (subst (IsStore S D ex) (sym at) me))

  -- what is held stands in order, and where its names say
  held_in_order : (s : ℕ) → IsStore S D ex s → IsTrue (ascends name_of (held_at S w s))
  held_in_order s me = ascends_placed_all name_of (flat_map (λ p. left_by p.1) (filter (λ p. is_decided S w p.0) (shelf S w s).prepared)) (shelf S w s).rows
      (inv.store s me).ascending

  held_here : (s : ℕ) → IsStore S D ex s → AllByRecursion (λ r. r.0.store ≡ s) (held_at S w s)
  held_here s me =
      all_placed_all name_of (λ r. r.0.store ≡ s) (flat_map (λ p. left_by p.1) (filter (λ p. is_decided S w p.0) (shelf S w s).prepared)) (shelf S w s).rows
      (all_flat (λ r. r.0.store ≡ s) (λ (p : Prepared). left_by p.1) (filter (λ p. is_decided S w p.0) (shelf S w s).prepared)
      (all_along (λ (p : Prepared). AllByRecursion (λ j. (item_name j).store ≡ s) (all_in p.1)) (λ p. AllByRecursion (λ (r : Row). r.0.store ≡ s) (left_by p.1))
      (left_here s)
      (filter (λ p. is_decided S w p.0) (shelf S w s).prepared)
      (all_filter (λ (p : Prepared). AllByRecursion (λ j. (item_name j).store ≡ s) (all_in p.1)) (λ p. is_decided S w p.0) (shelf S w s).prepared
      (inv.store s me).items_here)))
      (inv.store s me).rows_here

  -- ---- the maps

  abbrev stores : List ℕ
  stores = filter (λ s. not (D s)) (stores_in S.rights)

  abbrev rows : FlatMap
  rows = within ex (flat_map (λ s. objects_of (held_at S w s)) stores)

  store_in : (s : ℕ) → In s stores → IsStore S D ex s
  store_in s h =
      let a = in_filter (λ s. not (D s)) s (stores_in S.rights) h in
      record { kind = (in_filter (is_store S.rights) s (range_with_len 0 64) a.0).1; outside = not-true (D s) a.1 }

  in_stores : (s : ℕ) → IsStore S D ex s → In s stores
  in_stores s me =
      let low = bit_below S.rights.stores s given.stores ((has_bit_exact S.rights.stores s).0 me.kind) in
      filter_in (λ s. not (D s)) s (stores_in S.rights)
      (filter_in (is_store S.rights) s (range_with_len 0 64) (in_range 0 64 s (omega arith) (omega (arith, low))) me.kind) (ap not me.outside)

  held_one : (o : Oid) (y : Object) → In (o, y) rows → get C.map o ≡ Some y
  held_one o y h =
      let f = in_filter (λ (r : Oid × Object). ex r.0.class) (o, y) (flat_map (λ s. objects_of (held_at S w s)) stores) h in
      let g = in_flat (λ s. objects_of (held_at S w s)) (o, y) stores f.0 in
      let me = store_in g.0 g.1 in
      let r = in_map (λ (r : Row). (r.0, r.2)) (o, y) (held_at S w g.0) g.2 in
      let name : (r.0).0 ≡ o = ap (λ (z : Oid × Object). z.0) (sym r.2) in
      let at : o.store ≡ g.0 = ap (λ (p : Oid). p.store) (sym name) ∙ each_of (λ (r : Row). r.0.store ≡ g.0) (held_at S w g.0) r.0 (held_here g.0 me) r.1 in
      let row : row_of name_of (held_at S w g.0) o ≡ Some r.0 =
      subst (λ p. row_of name_of (held_at S w g.0) p ≡ Some r.0) name
      (row_once name_of (held_at S w g.0) r.0 (ascends_once name_of (held_at S w g.0) (held_in_order g.0 me)) r.1) in
      object_committed C o r.0 (sym (held_row g.0 me o at f.1) ∙ row) ∙ ap Some (sym (ap (λ (z : Oid × Object). z.1) r.2))

  held_there : (o : Oid) (x : Object) → get C.map o ≡ Some x → In (o, x) rows
  held_there o x h =
      let in_ex = inv.commits.within o x h in
      let fit = inv.commits.fits o x h in
      let me = holder_is S D ex given hyp o in_ex fit.name in
      let row : row_of name_of (held_at S w o.store) o ≡ Some (o, C.version o, x) = held_row o.store me o refl in_ex ∙ ap (option_map (λ x. (o, C.version o, x))) h in
      filter_in (λ (r : Oid × Object). ex r.0.class) (o, x) (flat_map (λ s. objects_of (held_at S w s)) stores)
      (flat_in (λ s. objects_of (held_at S w s)) (o, x) o.store stores (in_stores o.store me)
      (map_in (λ (r : Row). (r.0, r.2)) (o, C.version o, x) (held_at S w o.store) (row_listed name_of (held_at S w o.store) o (o, C.version o, x) row))) in_ex

  held_get : (o : Oid) (b : Bool) → is_among o (map (λ r. r.0) rows) ≡ b → (m : Option Object) → get C.map o ≡ m → get (map_of rows) o ≡ m
  held_get o true e m h =
      let a = among_row o rows e in
      put_all_one rows [] o a.0 (λ y i. same_Some y a.0 (sym (held_one o y i) ∙ held_one o a.0 a.1)) e ∙ sym (held_one o a.0 a.1) ∙ h
  held_get o false e None h = put_all_other rows [] o e
  held_get o false e (Some x) h = absurd (both_ways (is_among o (map (λ r. r.0) rows)) e (row_among o x rows (held_there o x h)))

  -- what stores outside D hold of the classes in ex is the map that the commits come to
  pub held_is : held_map S D ex w ≡ C.map
  held_is = same_maps (held_map S D ex w) C.map (ascends_map_of rows) inv.commits.ascending (λ o. held_get o (is_among o (map (λ r. r.0) rows)) refl (get C.map o) refl)
