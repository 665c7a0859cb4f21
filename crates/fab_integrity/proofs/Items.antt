-- Of what a store prepares of a transaction: which of its parts it is, that its locks bar others, and who may write what it leaves.
use Rattle.std.specs.Prelude.{◌≡◌, ◌⊎◌, ℕ, not, ◌==◌, IsTrue, IsFalse, List, [], ◌∷◌, ◌++◌}
use Rattle.std.specs.List.{AllByRecursion}
use Rattle.std.proofs.Common.{refl, sym, ◌∙◌, subst, inl, inr, true≢false}
use Rattle.std.proofs.lemmas.Bool.{eq-eqb, not-false}
use Rattle.fab_base.specs.declared.object.Oid.{Oid}
use Rattle.fab_base.specs.declared.object.Object.{Object}
use Rattle.fab_base.specs.declared.message.Items.{Items}
use Rattle.fab_base.proofs.Lists.{all_map, all_split, all_append, all_of_map, all_along}
use Rattle.fab_protocol.specs.declared.parts.Parts.{Parts}
use Rattle.fab_protocol.specs.Parts.{items_at}
use Rattle.fab_protocol.specs.Shelves.{IsApart, AreApart}
use Rattle.fab_protocol.specs.Stores.{Prepared, Item, Read, Write, Create, item_name, reads_in, writes_in, creates_in, all_in, changed_by, lacks_right}
use Rattle.fab_protocol.specs.Versions.{Row, name_of, left_by}
use Rattle.fab_protocol.proofs.Locks.{Free, free_both_ways, free_unchanged}
use Rattle.fab_protocol.proofs.VersionLaws.{left_names, left_by_names}
use Rattle.fab_integrity.proofs.Invariant.{In}
use Rattle.fab_integrity.proofs.Lists.{in_left, in_right, filter_in, map_in, each_of}
use Rattle.fab_integrity.proofs.Maps.{in_among}
use Rattle.fab_rights.specs.declared.rights.Rights.{Rights}
use Rattle.fab_rights.specs.Computed.{may_write}

-- ---- the items of parts

-- each read, write and new object of a store is among its items
pub in_reads : (items : Items) (r : Oid × ℕ) → In r items.reads → In (Read r.0 r.1) (all_in items)
in_reads items r i =
    in_left (Read r.0 r.1) (reads_in items ++ writes_in items) (creates_in items)
    (in_left (Read r.0 r.1) (reads_in items) (writes_in items) (map_in (λ (r : Oid × ℕ). Read r.0 r.1) r items.reads i))

pub in_writes : (items : Items) (w : Row) → In w items.writes → In (Write w.0 w.1 w.2) (all_in items)
in_writes items w i =
    in_left (Write w.0 w.1 w.2) (reads_in items ++ writes_in items) (creates_in items)
    (in_right (Write w.0 w.1 w.2) (reads_in items) (writes_in items) (map_in (λ (w : Row). Write w.0 w.1 w.2) w items.writes i))

pub in_creates : (items : Items) (c : Oid × Object) → In c items.creates → In (Create c.0 c.1) (all_in items)
in_creates items c i =
    in_right (Create c.0 c.1) (reads_in items ++ writes_in items) (creates_in items)
    (map_in (λ (c : Oid × Object). Create c.0 c.1) c items.creates i)

-- writes and creates of a store are those of the parts
pub write_here : (parts : Parts) (w : Row) → In w parts.writes → In w (items_at parts w.0.store).writes
write_here parts w i = filter_in (λ (v : Row). v.0.store == w.0.store) w parts.writes i (eq-eqb w.0.store w.0.store refl)

pub create_here : (parts : Parts) (c : Oid × Object) → In c parts.creates → In c (items_at parts c.0.store).creates
create_here parts c i = filter_in (λ (d : Oid × Object). d.0.store == c.0.store) c parts.creates i (eq-eqb c.0.store c.0.store refl)

-- ---- locks bar both ways

same_or_free : (ps : List Prepared) (p q : Prepared) → AreApart ps → In p ps → In q ps → (p ≡ q) ⊎ AllByRecursion (Free q.1) (all_in p.1)
same_or_free [] p q h i j = absurd i
same_or_free (x ∷ ps) p q h (inl a) (inl b) = inl (a ∙ sym b)
same_or_free (x ∷ ps) p q h (inl a) (inr j) =
    inr (subst (λ (y : Prepared). AllByRecursion (Free q.1) (all_in y.1)) (sym a) (each_of (IsApart x) ps q h.0 j).1)
same_or_free (x ∷ ps) p q h (inr i) (inl b) =
    inr (subst (λ (y : Prepared). AllByRecursion (Free y.1) (all_in p.1)) (sym b) (free_both_ways p.1 x.1 (each_of (IsApart x) ps p h.0 i).1))
same_or_free (x ∷ ps) p q h (inr i) (inr j) = same_or_free ps p q h.1 i j

-- what one prepared transaction names no other leaves
pub locks_out : (ps : List Prepared) (p q : Prepared) (i : Item) (r : Row) → AreApart ps → In p ps → In q ps → In i (all_in p.1) → In r (left_by q.1)
    → r.0 ≡ item_name i → p ≡ q
locks_out ps p q i r h a b has leaves e = elim (same_or_free ps p q h a b) [
  | inl same ↦ same
  | inr free ↦
      let none = free_unchanged q.1 i (each_of (Free q.1) (all_in p.1) i free has) in
      let named : In r.0 (changed_by q.1) = subst (In r.0) (left_names q.1) (map_in name_of r (left_by q.1) leaves) in
      absurd (true≢false (sym (in_among (item_name i) (changed_by q.1) (subst (λ o. In o (changed_by q.1)) e named)) ∙ none))
]

-- ---- what they leave

-- its sender may write it
pub may_by_items : (rights : Rights) (n : ℕ) (items : Items) → AllByRecursion (λ j. IsFalse (lacks_right rights n j)) (all_in items)
    → AllByRecursion (λ (r : Row). IsTrue (may_write rights n r.0.class)) (left_by items)
may_by_items rights n items h =
    let outer = all_split (λ j. IsFalse (lacks_right rights n j)) (reads_in items ++ writes_in items) (creates_in items) h in
    let inner = all_split (λ j. IsFalse (lacks_right rights n j)) (reads_in items) (writes_in items) outer.0 in
    left_by_names (λ o. IsTrue (may_write rights n o.class)) items
    (all_append (λ j. IsTrue (may_write rights n (item_name j).class)) (writes_in items) (creates_in items)
    (all_map (λ j. IsTrue (may_write rights n (item_name j).class)) (λ (x : Row). Write x.0 x.1 x.2) items.writes
    (all_along (λ (x : Row). IsFalse (not (may_write rights n x.0.class))) (λ (x : Row). IsTrue (may_write rights n x.0.class))
    (λ x g. not-false (may_write rights n x.0.class) g) items.writes
    (all_of_map (λ j. IsFalse (lacks_right rights n j)) (λ (x : Row). Write x.0 x.1 x.2) items.writes inner.1)))
    (all_map (λ j. IsTrue (may_write rights n (item_name j).class)) (λ (x : Oid × Object). Create x.0 x.1) items.creates
    (all_along (λ (x : Oid × Object). IsFalse (not (may_write rights n x.0.class))) (λ (x : Oid × Object). IsTrue (may_write rights n x.0.class))
    (λ x g. not-false (may_write rights n x.0.class) g) items.creates
    (all_of_map (λ j. IsFalse (lacks_right rights n j)) (λ (x : Oid × Object). Create x.0 x.1) items.creates outer.1))))

-- what is prepared at a store is left there
pub left_here : (s : ℕ) (p : Prepared) → AllByRecursion (λ j. (item_name j).store ≡ s) (all_in p.1) → AllByRecursion (λ (r : Row). r.0.store ≡ s) (left_by p.1)
left_here s p g =
    let k = all_split (λ j. (item_name j).store ≡ s) (reads_in p.1 ++ writes_in p.1) (creates_in p.1) g in
    left_by_names (λ o. o.store ≡ s) p.1
    (all_append (λ j. (item_name j).store ≡ s) (writes_in p.1) (creates_in p.1)
    (all_split (λ j. (item_name j).store ≡ s) (reads_in p.1) (writes_in p.1) k.0).1 k.1)
