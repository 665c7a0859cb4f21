-- Prepared, Refused, Released and BootSeen keep what holds of a shelf.
use Rattle.std.proofs.Common.{◌≡◌, ◌<◌, ◌^◌, ℕ, Bool, true, false, not, cond, ◌==◌, ◌&&◌, IsTrue, IsFalse}
use Rattle.std.proofs.Common.{List, [], ◌∷◌, ◌++◌, length, inl, inr, sym, subst, ap, ◌∙◌, arith}
use Rattle.std.specs.List.{filter, AllByRecursion}
use Rattle.std.proofs.lemmas.Bool.{cases_eq, not-true, eqb-false, ne_eqb}
use Rattle.std.proofs.lemmas.Bool.Decides.{nat_tests}
use Rattle.fab_base.specs.declared.object.Tid.{Tid}
use Rattle.fab_base.specs.declared.message.Items.{Items}
use Rattle.fab_base.specs.declared.entry.Entry.TheVariants as e
use Rattle.fab_base.specs.FieldSpelling.{KeepsItems}
use Rattle.fab_base.specs.Tids.{is_above}
use Rattle.fab_base.proofs.Lists.{all_append, all_filter, all_passed, all_along}
use Rattle.fab_rights.specs.declared.rights.Rights.{Rights}
use Rattle.fab_rights.specs.Computed.{is_worker}
use Rattle.fab_rights.proofs.Bits.{bit_below, has_bit_exact}
use Rattle.fab_protocol.specs.declared.sender.Sender.{Sender}
use Rattle.fab_protocol.specs.Tables.{OnlyOnce}
use Rattle.fab_protocol.specs.Versions.{is_tid}
use Rattle.fab_protocol.specs.Stores.{Shelf, Prepared, Item, keeps, all_in, named_by, item_name, start_of, last_of, sender_in, with_last, with_boot}
use Rattle.fab_protocol.specs.Stores.{is_unsuited, lacks_right}
use Rattle.fab_protocol.specs.Shelves.{IsShelf, IsAllowed, IsCurrent, IsApart, IsSuited, AreApart, CanKeep}
use Rattle.fab_protocol.proofs.Locks.{Free, free_both_ways, exchanged}
use Rattle.fab_protocol.proofs.Reasons.{IsFine, yes_is_fine, yes_names_once}
use Rattle.fab_protocol.proofs.Senders.{sender_at, sender_other, as_many, remembered_last, remembered_boot}

-- ---- workers

pub worker_below : (rights : Rights) (n : ℕ) → rights.workers < 2 ^ 64 → IsTrue (is_worker rights n) → n < 64
worker_below rights n fits is = bit_below rights.workers n fits ((has_bit_exact rights.workers n).0 is)

-- ---- last tids

abbrev last_in : List Sender → ℕ → Tid
last_in senders n = (sender_in senders n).last

pub last_at : (senders : List Sender) (t : Tid) → t.worker < length senders → last_in (with_last t senders) t.worker ≡ t
last_at senders t low = ap (λ (x : Sender). x.last) (sender_at senders t.worker (record (sender_in senders t.worker) { last = t }) low)

pub last_other : (senders : List Sender) (t : Tid) (n : ℕ) → (n ≡ t.worker → ⊥) → last_in (with_last t senders) n ≡ last_in senders n
last_other senders t n other =
    ap (λ (x : Sender). x.last) (sender_other senders t.worker n (record (sender_in senders t.worker) { last = t }) other)

not_above : (p l t : Tid) → is_above p l ≡ false → is_above t l ≡ true → is_above p t ≡ false
not_above p l t h g = grind (arith, nat_tests)

not_tid : (p l t : Tid) → is_above p l ≡ false → is_above t l ≡ true → is_tid p t ≡ false
not_tid p l t h g = grind (arith, nat_tests)

not_above_itself : (t : Tid) → is_above t t ≡ false
not_above_itself t = grind (arith, nat_tests)

abbrev IsHeard : List Sender → Prepared → Type 0
IsHeard senders p = IsFalse (is_above p.0 (last_in senders p.0.worker))

module _ (senders : List Sender) (t : Tid) (low : t.worker < length senders) (above : IsTrue (is_above t (last_in senders t.worker))) where
  heard_still : (p : Prepared) → IsHeard senders p → IsHeard (with_last t senders) p
  heard_still p h = elim (cases_eq p.0.worker t.worker) [
    | inl same ↦ subst (λ l. IsFalse (is_above p.0 l)) (sym (ap (last_in (with_last t senders)) same ∙ last_at senders t low))
        (not_above p.0 (last_in senders t.worker) t (subst (λ n. IsFalse (is_above p.0 (last_in senders n))) same h) above)
    | inr other ↦ subst (λ l. IsFalse (is_above p.0 l)) (sym (last_other senders t p.0.worker other)) h
  ]

  heard_now : (items : Items) → IsHeard (with_last t senders) (t, items)
  heard_now items = subst (λ l. IsFalse (is_above t l)) (sym (last_at senders t low)) (not_above_itself t)

  -- an attempt that was heard of is another
  another_tid : (p : Prepared) → IsHeard senders p → is_tid p.0 t ≡ false
  another_tid p h = elim (cases_eq p.0.worker t.worker) [
    | inl same ↦ not_tid p.0 (last_in senders t.worker) t (subst (λ n. IsFalse (is_above p.0 (last_in senders n))) same h) above
    | inr other ↦ ap (λ b. b && ((p.0.boot == t.boot) && (p.0.number == t.number))) (ne_eqb p.0.worker t.worker other)
  ]

heard_of_others : (senders : List Sender) (w b : ℕ) (p : Prepared) → IsHeard senders p → not (p.0.worker == w) ≡ true
    → IsHeard (with_boot w b senders) p
heard_of_others senders w b p h other =
    subst (λ l. IsFalse (is_above p.0 l))
    (sym (ap (λ (x : Sender). x.last)
    (sender_other senders w p.0.worker (record { last = start_of w b; boot = b }) (eqb-false p.0.worker w (not-true (p.0.worker == w) other))))) h

-- ---- attempts apart

pub apart_filter : (test : Prepared → Bool) (ps : List Prepared) → AreApart ps → AreApart (filter test ps)
apart_filter test [] h = tt
apart_filter test (p ∷ ps) h =
    elim (test p) as (λ b. AreApart (cond b (p ∷ filter test ps) (filter test ps))) [
      | true ↦ (all_filter (IsApart p) test ps h.0, apart_filter test ps h.1)
      | false ↦ apart_filter test ps h.1
    ]

apart_more : (ps : List Prepared) (q : Prepared) → AreApart ps → AllByRecursion (λ p. IsApart p q) ps → AreApart (ps ++ q ∷ [])
apart_more [] q h g = (tt, tt)
apart_more (p ∷ ps) q h g = (all_append (IsApart p) ps (q ∷ []) h.0 (g.0, tt), apart_more ps q h.1 g.1)

-- ---- records

module _ (rights : Rights) (s : ℕ) (shelf : Shelf) (fits : rights.workers < 2 ^ 64) (h : IsShelf rights s shelf) where
  pub refused_keeps : (t : Tid) → CanKeep rights s (e.Refused t) shelf → IsShelf rights s (keeps (e.Refused t) shelf)
  refused_keeps t can =
      let below = worker_below rights t.worker fits can.0 in
      let low : t.worker < length shelf.senders = omega (arith, below, as_many shelf.senders h.remembered) in
      record {
        ascending = h.ascending;
        rows_here = h.rows_here;
        versions = h.versions;
        senders = h.senders;
        tids = all_along (IsHeard shelf.senders) (IsHeard (with_last t shelf.senders)) (heard_still shelf.senders t low can.1) shelf.prepared h.tids;
        items_here = h.items_here;
        current = h.current;
        apart = h.apart;
        once = h.once;
        allowed = h.allowed;
        suited = h.suited;
        fields = h.fields;
        counts = h.counts;
        remembered = remembered_last shelf.senders t below h.remembered;
      }

  -- what stays prepared where only that of a test does
  record Stays (test : Prepared → Bool) : Type 0 where
    senders : AllByRecursion (λ p. IsTrue (is_worker rights p.0.worker)) (filter test shelf.prepared)
    items_here : AllByRecursion (λ p. AllByRecursion (λ i. (item_name i).store ≡ s) (all_in p.1)) (filter test shelf.prepared)
    current : AllByRecursion (λ p. AllByRecursion (IsCurrent shelf) (all_in p.1)) (filter test shelf.prepared)
    apart : AreApart (filter test shelf.prepared)
    once : AllByRecursion (λ p. OnlyOnce (named_by p.1)) (filter test shelf.prepared)
    allowed : AllByRecursion (IsAllowed rights) (filter test shelf.prepared)
    suited : AllByRecursion (IsSuited rights) (filter test shelf.prepared)
    counts : AllByRecursion (λ p. KeepsItems p.1) (filter test shelf.prepared)

  stays : (test : Prepared → Bool) → Stays test
  stays test = record {
    senders = all_filter (λ p. IsTrue (is_worker rights p.0.worker)) test shelf.prepared h.senders;
    items_here = all_filter (λ p. AllByRecursion (λ i. (item_name i).store ≡ s) (all_in p.1)) test shelf.prepared h.items_here;
    current = all_filter (λ p. AllByRecursion (IsCurrent shelf) (all_in p.1)) test shelf.prepared h.current;
    apart = apart_filter test shelf.prepared h.apart;
    once = all_filter (λ p. OnlyOnce (named_by p.1)) test shelf.prepared h.once;
    allowed = all_filter (IsAllowed rights) test shelf.prepared h.allowed;
    suited = all_filter (IsSuited rights) test shelf.prepared h.suited;
    counts = all_filter (λ p. KeepsItems p.1) test shelf.prepared h.counts;
  }

  pub released_keeps : (t : Tid) → IsShelf rights s (keeps (e.Released t) shelf)
  released_keeps t =
      let those = stays (λ p. not (is_tid p.0 t)) in
      record {
        ascending = h.ascending;
        rows_here = h.rows_here;
        versions = h.versions;
        senders = those.senders;
        tids = all_filter (IsHeard shelf.senders) (λ p. not (is_tid p.0 t)) shelf.prepared h.tids;
        items_here = those.items_here;
        current = those.current;
        apart = those.apart;
        once = those.once;
        allowed = those.allowed;
        suited = those.suited;
        fields = h.fields;
        counts = those.counts;
        remembered = h.remembered;
      }

  pub boot_keeps : (w b : ℕ) → CanKeep rights s (e.BootSeen w b) shelf → IsShelf rights s (keeps (e.BootSeen w b) shelf)
  boot_keeps w b can =
      let those = stays (λ p. not (p.0.worker == w)) in
      record {
        ascending = h.ascending;
        rows_here = h.rows_here;
        versions = h.versions;
        senders = those.senders;
        tids = all_passed (IsHeard shelf.senders) (IsHeard (with_boot w b shelf.senders)) (λ p. not (p.0.worker == w))
            (heard_of_others shelf.senders w b) shelf.prepared h.tids;
        items_here = those.items_here;
        current = those.current;
        apart = those.apart;
        once = those.once;
        allowed = those.allowed;
        suited = those.suited;
        fields = h.fields;
        counts = those.counts;
        remembered = remembered_boot shelf.senders w b (worker_below rights w fits can.0) h.remembered;
      }

  apart_from : (t : Tid) (items : Items) → t.worker < length shelf.senders → IsTrue (is_above t (last_of shelf t.worker)) → (ps : List Prepared)
      → AllByRecursion (IsHeard shelf.senders) ps → AllByRecursion (λ p. AllByRecursion (Free p.1) (all_in items)) ps
      → AllByRecursion (λ p. IsApart p (t, items)) ps
  apart_from t items low above [] heard free = tt
  apart_from t items low above (p ∷ ps) heard free = (
    (another_tid shelf.senders t low above p heard.0, free_both_ways p.1 items free.0),
    apart_from t items low above ps heard.1 free.1,
  )

  pub prepared_keeps : (t : Tid) (items : Items) → CanKeep rights s (e.Prepared t items) shelf → IsShelf rights s (keeps (e.Prepared t items) shelf)
  prepared_keeps t items can =
      let below = worker_below rights t.worker fits can.0 in
      let low : t.worker < length shelf.senders = omega (arith, below, as_many shelf.senders h.remembered) in
      let Fine : Item → Type 0 = IsFine rights s t.worker t shelf in
      let fine = yes_is_fine rights s t.worker t shelf items can.3 in
      let more : List Prepared = (t, items) ∷ [] in
      record {
        ascending = h.ascending;
        rows_here = h.rows_here;
        versions = h.versions;
        senders = all_append (λ p. IsTrue (is_worker rights p.0.worker)) shelf.prepared more h.senders (can.0, tt);
        tids = all_append (IsHeard (with_last t shelf.senders)) shelf.prepared more
            (all_along (IsHeard shelf.senders) (IsHeard (with_last t shelf.senders)) (heard_still shelf.senders t low can.1) shelf.prepared h.tids)
            (heard_now shelf.senders t low can.1 items, tt);
        items_here = all_append (λ p. AllByRecursion (λ i. (item_name i).store ≡ s) (all_in p.1)) shelf.prepared more h.items_here
            (all_along Fine (λ i. (item_name i).store ≡ s) (λ i f. f.here) (all_in items) fine, tt);
        current = all_append (λ p. AllByRecursion (IsCurrent shelf) (all_in p.1)) shelf.prepared more h.current
            (all_along Fine (IsCurrent shelf) (λ i f. f.current) (all_in items) fine, tt);
        apart = apart_more shelf.prepared (t, items) h.apart
            (apart_from t items low can.1 shelf.prepared h.tids
            (exchanged (all_in items) shelf.prepared
            (all_along Fine (λ i. AllByRecursion (λ p. Free p.1 i) shelf.prepared) (λ i f. f.unlocked) (all_in items) fine)));
        once = all_append (λ p. OnlyOnce (named_by p.1)) shelf.prepared more h.once (yes_names_once rights s t.worker t shelf items can.3, tt);
        allowed = all_append (IsAllowed rights) shelf.prepared more h.allowed
            (all_along Fine (λ i. IsFalse (lacks_right rights t.worker i)) (λ i f. f.allowed) (all_in items) fine, tt);
        suited = all_append (IsSuited rights) shelf.prepared more h.suited
            (all_along Fine (λ i. IsFalse (is_unsuited rights t i)) (λ i f. f.suited) (all_in items) fine, tt);
        fields = h.fields;
        counts = all_append (λ p. KeepsItems p.1) shelf.prepared more h.counts (can.2, tt);
        remembered = remembered_last shelf.senders t below h.remembered;
      }
