-- Reasons to refuse a Prepare: a vote is Yes exactly where none holds, and what that says of the items.
use Rattle.std.proofs.Common.{◌≡◌, ◌↔◌, ◌⊎◌, inl, inr, ℕ, Bool, true, false, not, ◌||◌, ◌==◌, if◌then◌else◌, IsTrue, IsFalse}
use Rattle.std.proofs.Common.{List, [], ◌∷◌, ◌++◌, map, Option, Some, None, Contains, refl, sym, ap, ◌∙◌, subst}
use Rattle.std.specs.List.{AllByRecursion}
use Rattle.std.proofs.lemmas.List.{map-append}
use Rattle.std.proofs.lemmas.Bool.{and_from, or_parts, not-false, eqb-true, true≢false}
use Rattle.fab_base.specs.declared.object.Oid.{Oid}
use Rattle.fab_base.specs.declared.object.Tid.{Tid}
use Rattle.fab_base.specs.declared.message.Items.{Items}
use Rattle.fab_base.specs.declared.message.Answer.{Answer}
use Rattle.fab_base.specs.declared.message.Answer.TheVariants.{Yes, Stale, Locked, Rights as NoRights, IllFormed, Exists}
use Rattle.fab_base.specs.FlatMap.{is_before, is_among}
use Rattle.fab_base.proofs.Lists.{all_append, all_split, all_at, all_of_map, at_head, behind_head}
use Rattle.fab_rights.specs.declared.rights.Rights.{Rights}
use Rattle.fab_rights.specs.Computed.{knows}
use Rattle.fab_protocol.specs.Tables.{ascends, OnlyOnce}
use Rattle.fab_protocol.specs.Versions.{Rows, version_of}
use Rattle.fab_protocol.specs.Stores.{Shelf, Prepared, Item, Read, Write, Create, item_name, reads_in, writes_in, creates_in, all_in, named_by}
use Rattle.fab_protocol.specs.Stores.{is_ill_formed, is_out_of_order, is_unsuited, lacks_right, out_of_date, is_locked_by, locked}
use Rattle.fab_protocol.specs.Stores.{reasons_of, reasons_in, reasons, first_of, vote}
use Rattle.fab_protocol.proofs.NameLists.{once_append}
use Rattle.fab_protocol.proofs.TableLaws.{ascends_once}

-- ---- the first reason that holds

abbrev Reason : Type 0
Reason = Bool × Answer

abbrev Refuses : Reason → Type 0
Refuses r = r.1 ≡ Yes → ⊥

all_false : (rs : List Reason) → AllByRecursion Refuses rs → first_of rs ≡ Yes → AllByRecursion (λ r. IsFalse r.0) rs
all_false [] n h = tt
all_false (r ∷ rs) n h =
    elim r.0 as (λ b. r.0 ≡ b → (if b then r.1 else first_of rs) ≡ Yes → AllByRecursion (λ q. IsFalse q.0) (r ∷ rs)) [
      | true ↦ λ f g. absurd (n.0 g)
      | false ↦ λ f g. (f, all_false rs n.1 g)
    ] refl h

none_first : (rs : List Reason) → AllByRecursion (λ r. IsFalse r.0) rs → first_of rs ≡ Yes
none_first [] h = refl
none_first (r ∷ rs) h = ap (λ b. if b then r.1 else first_of rs) h.0 ∙ none_first rs h.1

-- the answer is that of a reason that holds
first_holds : (rs : List Reason) → (first_of rs ≡ Yes) ⊎ ((r : Reason) × Contains rs r × IsTrue r.0 × (first_of rs ≡ r.1))
first_holds [] = inl refl
first_holds (r ∷ rs) =
    elim r.0 as (λ b. r.0 ≡ b → ((if b then r.1 else first_of rs) ≡ Yes)
    ⊎ ((q : Reason) × Contains (r ∷ rs) q × IsTrue q.0 × ((if b then r.1 else first_of rs) ≡ q.1))) [
      | true ↦ λ f. inr (r, at_head r rs, f, refl)
      | false ↦ λ f. elim (first_holds rs) [
        | inl accepted ↦ inl accepted
        | inr (q, has, holds, is) ↦ inr (q, behind_head r rs q has, holds, is)
      ]
    ] refl

-- ---- no reason answers Yes

ill_refuses : (o : Oid) → IllFormed o ≡ Yes → ⊥
ill_refuses o h = cc

rights_refuse : (o : Oid) → NoRights o ≡ Yes → ⊥
rights_refuse o h = cc

lock_refuses : (t : Tid) → Locked t ≡ Yes → ⊥
lock_refuses t h = cc

stale_refuses : (o : Oid) (n : ℕ) → Stale o n ≡ Yes → ⊥
stale_refuses o n h = cc

exists_refuses : (o : Oid) → Exists o ≡ Yes → ⊥
exists_refuses o h = cc

date_refuses : (rows : Rows) (i : Item) → Refuses (out_of_date rows i)
date_refuses rows (Read o version) h = stale_refuses o (version_of rows o) h
date_refuses rows (Write o version x) h = stale_refuses o (version_of rows o) h
date_refuses rows (Create o x) h = exists_refuses o h

locks_refuse : (i : Item) (ps : List Prepared) → AllByRecursion Refuses (locked ps i)
locks_refuse i [] = tt
locks_refuse i (p ∷ ps) = (lock_refuses p.0, locks_refuse i ps)

module _ (rights : Rights) (s n : ℕ) (t : Tid) (shelf : Shelf) where
  reasons_refuse : (earlier : List Oid) (before : Option Oid) (is : List Item)
      → AllByRecursion Refuses (reasons_in rights s n t shelf earlier before is)
  reasons_refuse earlier before [] = tt
  reasons_refuse earlier before (i ∷ is) =
      all_append Refuses (reasons_of rights s n t shelf earlier before i) (reasons_in rights s n t shelf earlier (Some (item_name i)) is)
      (ill_refuses (item_name i), (rights_refuse (item_name i), (date_refuses shelf.rows i, locks_refuse i shelf.prepared)))
      (reasons_refuse earlier (Some (item_name i)) is)

  each_refuses : (items : Items) → AllByRecursion Refuses (reasons rights s n t items shelf)
  each_refuses items =
      let rs = reasons_in rights s n t shelf [] None (reads_in items) in
      let ws = reasons_in rights s n t shelf (map item_name (reads_in items)) None (writes_in items) in
      let cs = reasons_in rights s n t shelf (map item_name (reads_in items ++ writes_in items)) None (creates_in items) in
      all_append Refuses (rs ++ ws) cs
      (all_append Refuses rs ws (reasons_refuse [] None (reads_in items)) (reasons_refuse (map item_name (reads_in items)) None (writes_in items)))
      (reasons_refuse (map item_name (reads_in items ++ writes_in items)) None (creates_in items))

  -- ---- a vote is Yes exactly where no reason holds

  pub yes_refutes : (items : Items) → vote rights s n t items shelf ≡ Yes → AllByRecursion (λ r. IsFalse r.0) (reasons rights s n t items shelf)
  yes_refutes items h = all_false (reasons rights s n t items shelf) (each_refuses items) h

  pub yes_exactly : (items : Items) → (vote rights s n t items shelf ≡ Yes) ↔ AllByRecursion (λ r. IsFalse r.0) (reasons rights s n t items shelf)
  yes_exactly items = (yes_refutes items, none_first (reasons rights s n t items shelf))

  pub reason_bars : (items : Items) (r : Reason) → Contains (reasons rights s n t items shelf) r → IsTrue r.0 → vote rights s n t items shelf ≡ Yes → ⊥
  reason_bars items r has holds h =
      true≢false (sym holds ∙ all_at (λ (q : Reason). IsFalse q.0) (reasons rights s n t items shelf) r (yes_refutes items h) has)

  pub no_has_reason : (items : Items) → (vote rights s n t items shelf ≡ Yes → ⊥)
      → (r : Reason) × Contains (reasons rights s n t items shelf) r × IsTrue r.0 × (vote rights s n t items shelf ≡ r.1)
  no_has_reason items refused = elim (first_holds (reasons rights s n t items shelf)) [
    | inl accepted ↦ absurd (refused accepted)
    | inr found ↦ found
  ]

  -- ---- what a Yes says of items

  -- here, suited, with the right, current, and free of locks
  pub record IsFine (i : Item) : Type 0 where
    pub here : (item_name i).store ≡ s
    pub suited : IsFalse (is_unsuited rights t i)
    pub allowed : IsFalse (lacks_right rights n i)
    pub current : IsFalse (out_of_date shelf.rows i).0
    pub unlocked : AllByRecursion (λ p. IsFalse (is_locked_by i p.1)) shelf.prepared

  record IsWellFormed (earlier : List Oid) (before : Option Oid) (i : Item) : Type 0 where
    here : (item_name i).store ≡ s
    in_order : IsFalse (is_out_of_order before (item_name i))
    another : IsFalse (is_among (item_name i) earlier)
    suited : IsFalse (is_unsuited rights t i)

  well_formed : (earlier : List Oid) (before : Option Oid) (i : Item) → IsFalse (is_ill_formed rights s t earlier before i)
      → IsWellFormed earlier before i
  well_formed earlier before i h =
      let a = not ((item_name i).store == s) in
      let b = not (knows rights (item_name i).class) in
      let c = is_out_of_order before (item_name i) in
      let d = is_among (item_name i) earlier in
      let last = or_parts (a || b || c || d) (is_unsuited rights t i) h in
      let third = or_parts (a || b || c) d last.0 in
      let second = or_parts (a || b) c third.0 in
      record {
        here = eqb-true (item_name i).store s (not-false ((item_name i).store == s) (or_parts a b second.0).0);
        in_order = second.1;
        another = third.1;
        suited = last.1;
      }

  abbrev AreFalse : List Reason → Type 0
  AreFalse rs = AllByRecursion (λ (r : Reason). IsFalse r.0) rs

  all_fine : (earlier : List Oid) (before : Option Oid) (is : List Item) → AreFalse (reasons_in rights s n t shelf earlier before is)
      → AllByRecursion IsFine is
  all_fine earlier before [] h = tt
  all_fine earlier before (i ∷ is) h =
      let g = all_split (λ (r : Reason). IsFalse r.0) (reasons_of rights s n t shelf earlier before i)
      (reasons_in rights s n t shelf earlier (Some (item_name i)) is) h in
      let formed = well_formed earlier before i g.0.0 in (
        record {
          here = formed.here;
          suited = formed.suited;
          allowed = g.0.1.0;
          current = g.0.1.1.0;
          unlocked = all_of_map (λ (r : Reason). IsFalse r.0) (λ (p : Prepared). (is_locked_by i p.1, Locked p.0)) shelf.prepared g.0.1.1.1;
        },
        all_fine earlier (Some (item_name i)) is g.1,
      )

  -- none of the names of earlier lists
  all_others : (earlier : List Oid) (before : Option Oid) (is : List Item) → AreFalse (reasons_in rights s n t shelf earlier before is)
      → AllByRecursion (λ o. IsFalse (is_among o earlier)) (map item_name is)
  all_others earlier before [] h = tt
  all_others earlier before (i ∷ is) h =
      let g = all_split (λ (r : Reason). IsFalse r.0) (reasons_of rights s n t shelf earlier before i)
      (reasons_in rights s n t shelf earlier (Some (item_name i)) is) h in
      ((well_formed earlier before i g.0.0).another, all_others earlier (Some (item_name i)) is g.1)

  -- in the order of names
  ascends_behind : (earlier : List Oid) (i : Item) (is : List Item) → AreFalse (reasons_in rights s n t shelf earlier (Some (item_name i)) is)
      → IsTrue (ascends item_name (i ∷ is))
  ascends_behind earlier i [] h = refl
  ascends_behind earlier i (j ∷ js) h =
      let g = all_split (λ (r : Reason). IsFalse r.0) (reasons_of rights s n t shelf earlier (Some (item_name i)) j)
      (reasons_in rights s n t shelf earlier (Some (item_name j)) js) h in
      and_from (is_before (item_name i) (item_name j)) (ascends item_name (j ∷ js))
      (not-false (is_before (item_name i) (item_name j)) (well_formed earlier (Some (item_name i)) j g.0.0).in_order)
      (ascends_behind earlier j js g.1)

  ascends_each : (earlier : List Oid) (is : List Item) → AreFalse (reasons_in rights s n t shelf earlier None is) → IsTrue (ascends item_name is)
  ascends_each earlier [] h = refl
  ascends_each earlier (i ∷ is) h =
      ascends_behind earlier i is
      (all_split (λ (r : Reason). IsFalse r.0) (reasons_of rights s n t shelf earlier None i)
      (reasons_in rights s n t shelf earlier (Some (item_name i)) is) h).1

  -- the reasons of the three lists
  record PartsFalse (items : Items) : Type 0 where
    reads : AreFalse (reasons_in rights s n t shelf [] None (reads_in items))
    writes : AreFalse (reasons_in rights s n t shelf (map item_name (reads_in items)) None (writes_in items))
    creates : AreFalse (reasons_in rights s n t shelf (map item_name (reads_in items ++ writes_in items)) None (creates_in items))

  parts_false : (items : Items) → vote rights s n t items shelf ≡ Yes → PartsFalse items
  parts_false items h =
      let rs = reasons_in rights s n t shelf [] None (reads_in items) in
      let ws = reasons_in rights s n t shelf (map item_name (reads_in items)) None (writes_in items) in
      let cs = reasons_in rights s n t shelf (map item_name (reads_in items ++ writes_in items)) None (creates_in items) in
      let last = all_split (λ (r : Reason). IsFalse r.0) (rs ++ ws) cs (yes_refutes items h) in
      let first = all_split (λ (r : Reason). IsFalse r.0) rs ws last.0 in
      record { reads = first.0; writes = first.1; creates = last.1 }

  pub yes_is_fine : (items : Items) → vote rights s n t items shelf ≡ Yes → AllByRecursion IsFine (all_in items)
  yes_is_fine items h =
      let parts = parts_false items h in
      all_append IsFine (reads_in items ++ writes_in items) (creates_in items)
      (all_append IsFine (reads_in items) (writes_in items) (all_fine [] None (reads_in items) parts.reads)
      (all_fine (map item_name (reads_in items)) None (writes_in items) parts.writes))
      (all_fine (map item_name (reads_in items ++ writes_in items)) None (creates_in items) parts.creates)

  pub yes_names_once : (items : Items) → vote rights s n t items shelf ≡ Yes → OnlyOnce (named_by items)
  yes_names_once items h =
      let parts = parts_false items h in
      let reads = map item_name (reads_in items) in
      let writes = map item_name (writes_in items) in
      let both = map item_name (reads_in items ++ writes_in items) in
      let creates = map item_name (creates_in items) in
      let touched : OnlyOnce both = subst OnlyOnce (sym (map-append item_name (reads_in items) (writes_in items)))
      (once_append reads writes (ascends_once item_name (reads_in items) (ascends_each [] (reads_in items) parts.reads))
      (ascends_once item_name (writes_in items) (ascends_each reads (writes_in items) parts.writes))
      (all_others reads None (writes_in items) parts.writes)) in
      subst OnlyOnce (sym (map-append item_name (reads_in items ++ writes_in items) (creates_in items)))
      (once_append both creates touched (ascends_once item_name (creates_in items) (ascends_each both (creates_in items) parts.creates))
      (all_others both None (creates_in items) parts.creates))

  -- an item that lacks the right bars a Yes
  pub lack_bars : (items : Items) (i : Item) → Contains (all_in items) i → IsTrue (lacks_right rights n i) → vote rights s n t items shelf ≡ Yes → ⊥
  lack_bars items i has lacks h = true≢false (sym lacks ∙ (all_at IsFine (all_in items) i (yes_is_fine items h) has).allowed)
