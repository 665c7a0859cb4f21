-- Locks bar both ways: items that others don't lock don't lock these.
use Rattle.std.proofs.Common.{◌≡◌, ℕ, false, ◌||◌, IsFalse, List, [], ◌∷◌, ◌++◌, map, sym, ap, ◌∙◌}
use Rattle.std.specs.List.{AllByRecursion}
use Rattle.std.proofs.lemmas.Bool.{or_parts, or_from}
use Rattle.std.proofs.lemmas.List.{map-append}
use Rattle.fab_base.specs.declared.object.Oid.{Oid}
use Rattle.fab_base.specs.declared.object.Object.{Object}
use Rattle.fab_base.specs.declared.message.Items.{Items}
use Rattle.fab_base.specs.FlatMap.{is_among}
use Rattle.fab_base.proofs.Lists.{all_append, all_split, all_along, all_two, all_map, all_of_map}
use Rattle.fab_protocol.specs.Stores.{Prepared, Item, Read, Write, Create, item_name, reads_in, writes_in, creates_in, all_in}
use Rattle.fab_protocol.specs.Stores.{changed_by, named_by, is_locked_by}
use Rattle.fab_protocol.proofs.NameLists.{Avoid, avoid_flips, among_append}

-- others don't lock the item
abbrev pub Free : Items → Item → Type 0
Free others i = IsFalse (is_locked_by i others)

-- ---- names of items

pub among_both : (o : Oid) (xs ys : List Item) → is_among o (map item_name (xs ++ ys)) ≡ (is_among o (map item_name xs) || is_among o (map item_name ys))
among_both o xs ys = ap (is_among o) (map-append item_name xs ys) ∙ among_append o (map item_name xs) (map item_name ys)

pub avoids_both : (o : Oid) (xs ys : List Item) → is_among o (map item_name xs) ≡ false → is_among o (map item_name ys) ≡ false
    → is_among o (map item_name (xs ++ ys)) ≡ false
avoids_both o xs ys h g = among_both o xs ys ∙ or_from (is_among o (map item_name xs)) (is_among o (map item_name ys)) h g

pub avoids_each : (o : Oid) (xs ys : List Item) → is_among o (map item_name (xs ++ ys)) ≡ false
    → (is_among o (map item_name xs) ≡ false) × (is_among o (map item_name ys) ≡ false)
avoids_each o xs ys h = or_parts (is_among o (map item_name xs)) (is_among o (map item_name ys)) (sym (among_both o xs ys) ∙ h)

-- what no item names none changes
pub changes_fewer : (others : Items) (o : Oid) → is_among o (named_by others) ≡ false → is_among o (changed_by others) ≡ false
changes_fewer others o h =
    let last = avoids_each o (reads_in others ++ writes_in others) (creates_in others) h in
    let first = avoids_each o (reads_in others) (writes_in others) last.0 in
    avoids_both o (writes_in others) (creates_in others) first.1 last.1

-- an item that the others don't lock names nothing that they change
pub free_unchanged : (others : Items) (i : Item) → Free others i → is_among (item_name i) (changed_by others) ≡ false
free_unchanged others (Read o version) h = h
free_unchanged others (Write o version x) h = changes_fewer others o h
free_unchanged others (Create o x) h = changes_fewer others o h

-- ---- both ways

-- items of one kind are free exactly where their names avoid the others'
abbrev Reads : List (Oid × ℕ) → List Item
Reads rs = map (λ (r : Oid × ℕ). Read r.0 r.1) rs

abbrev Writes : List (Oid × ℕ × Object) → List Item
Writes ws = map (λ (w : Oid × ℕ × Object). Write w.0 w.1 w.2) ws

abbrev Creates : List (Oid × Object) → List Item
Creates cs = map (λ (c : Oid × Object). Create c.0 c.1) cs

abbrev Unchanged : Items → Item → Type 0
Unchanged others i = IsFalse (is_among (item_name i) (changed_by others))

abbrev Unnamed : Items → Item → Type 0
Unnamed others i = IsFalse (is_among (item_name i) (named_by others))

abbrev Unread : Items → Item → Type 0
Unread others i = IsFalse (is_among (item_name i) (map item_name (reads_in others)))

reads_to : (others : Items) (rs : List (Oid × ℕ)) → AllByRecursion (Free others) (Reads rs) → AllByRecursion (Unchanged others) (Reads rs)
reads_to others [] h = tt
reads_to others (r ∷ rs) h = (h.0, reads_to others rs h.1)

reads_from : (others : Items) (rs : List (Oid × ℕ)) → AllByRecursion (Unchanged others) (Reads rs) → AllByRecursion (Free others) (Reads rs)
reads_from others [] h = tt
reads_from others (r ∷ rs) h = (h.0, reads_from others rs h.1)

writes_to : (others : Items) (ws : List (Oid × ℕ × Object)) → AllByRecursion (Free others) (Writes ws) → AllByRecursion (Unnamed others) (Writes ws)
writes_to others [] h = tt
writes_to others (w ∷ ws) h = (h.0, writes_to others ws h.1)

writes_from : (others : Items) (ws : List (Oid × ℕ × Object)) → AllByRecursion (Unnamed others) (Writes ws) → AllByRecursion (Free others) (Writes ws)
writes_from others [] h = tt
writes_from others (w ∷ ws) h = (h.0, writes_from others ws h.1)

creates_to : (others : Items) (cs : List (Oid × Object)) → AllByRecursion (Free others) (Creates cs) → AllByRecursion (Unnamed others) (Creates cs)
creates_to others [] h = tt
creates_to others (c ∷ cs) h = (h.0, creates_to others cs h.1)

creates_from : (others : Items) (cs : List (Oid × Object)) → AllByRecursion (Unnamed others) (Creates cs) → AllByRecursion (Free others) (Creates cs)
creates_from others [] h = tt
creates_from others (c ∷ cs) h = (h.0, creates_from others cs h.1)

pub free_both_ways : (p q : Items) → AllByRecursion (Free p) (all_in q) → AllByRecursion (Free q) (all_in p)
free_both_ways p q h =
    let last = all_split (Free p) (reads_in q ++ writes_in q) (creates_in q) h in
    let first = all_split (Free p) (reads_in q) (writes_in q) last.0 in
    let reads : Avoid (map item_name (reads_in q)) (changed_by p) =
    all_map (λ o. IsFalse (is_among o (changed_by p))) item_name (reads_in q) (reads_to p q.reads first.0) in
    let changes : Avoid (changed_by q) (named_by p) =
    all_map (λ o. IsFalse (is_among o (named_by p))) item_name (writes_in q ++ creates_in q)
    (all_append (Unnamed p) (writes_in q) (creates_in q) (writes_to p q.writes first.1) (creates_to p q.creates last.1)) in
    let named : AllByRecursion (Unchanged q) (all_in p) =
    all_of_map (λ o. IsFalse (is_among o (changed_by q))) item_name (all_in p) (avoid_flips (changed_by q) (named_by p) changes) in
    let changed : AllByRecursion (Unread q) (writes_in p ++ creates_in p) =
    all_of_map (λ o. IsFalse (is_among o (map item_name (reads_in q)))) item_name (writes_in p ++ creates_in p)
    (avoid_flips (map item_name (reads_in q)) (changed_by p) reads) in
    let named_last = all_split (Unchanged q) (reads_in p ++ writes_in p) (creates_in p) named in
    let named_first = all_split (Unchanged q) (reads_in p) (writes_in p) named_last.0 in
    let changed_parts = all_split (Unread q) (writes_in p) (creates_in p) changed in
    all_append (Free q) (reads_in p ++ writes_in p) (creates_in p)
    (all_append (Free q) (reads_in p) (writes_in p) (reads_from q p.reads named_first.0)
    (writes_from q p.writes (all_two (Unread q) (Unchanged q) (Unnamed q) joined (writes_in p) changed_parts.0 named_first.1)))
    (creates_from q p.creates (all_two (Unread q) (Unchanged q) (Unnamed q) joined (creates_in p) changed_parts.1 named_last.1))
  where
    joined : (i : Item) → Unread q i → Unchanged q i → Unnamed q i
    joined i h g =
        let k = avoids_each (item_name i) (writes_in q) (creates_in q) g in
        avoids_both (item_name i) (reads_in q ++ writes_in q) (creates_in q) (avoids_both (item_name i) (reads_in q) (writes_in q) h k.0) k.1

-- ---- one list and several

-- for each of several, and so for each item
pub exchanged : (is : List Item) (ps : List Prepared) → AllByRecursion (λ i. AllByRecursion (λ p. Free p.1 i) ps) is
    → AllByRecursion (λ p. AllByRecursion (Free p.1) is) ps
exchanged is [] h = tt
exchanged is (p ∷ ps) h = (
  all_along (λ i. AllByRecursion (λ q. Free q.1 i) (p ∷ ps)) (Free p.1) (λ i g. g.0) is h,
  exchanged is ps (all_along (λ i. AllByRecursion (λ q. Free q.1 i) (p ∷ ps)) (λ i. AllByRecursion (λ q. Free q.1 i) ps) (λ i g. g.1) is h),
)

pub turned : (is : List Item) (ps : List Prepared) → AllByRecursion (λ p. AllByRecursion (Free p.1) is) ps
    → AllByRecursion (λ i. AllByRecursion (λ p. Free p.1 i) ps) is
turned [] ps h = tt
turned (i ∷ is) ps h = (
  all_along (λ (p : Prepared). AllByRecursion (Free p.1) (i ∷ is)) (λ p. Free p.1 i) (λ p g. g.0) ps h,
  turned is ps (all_along (λ (p : Prepared). AllByRecursion (Free p.1) (i ∷ is)) (λ p. AllByRecursion (Free p.1) is) (λ p g. g.1) ps h),
)
