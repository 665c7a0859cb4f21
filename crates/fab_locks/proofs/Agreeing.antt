-- The indexes say what is held, behind a transaction that was put or taken out.
use Rattle.std.proofs.Common.{◌≡◌, ℕ, ◌==◌, Bool, true, false, not, ◌&&◌, ◌||◌, cond, [], Option, Some, None, refl, sym, subst, ap, ◌∙◌}
use Rattle.std.specs.Ordering.{nat_cmp}
use Rattle.std.specs.Map.{lookup}
use Rattle.std.specs.List.{list_any}
use Rattle.std.specs.BTreeMap.{get, is_at}
use Rattle.std.specs.BTreeSet.{BTreeSet}
use Rattle.std.proofs.lemmas.Bool.{true≢false, eqb-true, eq-eqb}
use Rattle.fab_base.specs.declared.object.Oid.{Oid}
use Rattle.fab_base.specs.declared.object.Tid.{Tid}
use Rattle.fab_base.specs.declared.message.Items.{Items}
use Rattle.fab_protocol.specs.Versions.{is_tid}
use Rattle.fab_protocol.specs.Stores.{Prepared}
use Rattle.fab_locks.specs.declared.index.Index.{Index}
use Rattle.fab_locks.specs.Indexes.{Agrees, Key, MayPut, Numbered, Put, Puts, Taken, Takes, has, is_changed, is_named, is_of, key_cmp, passes, tid_cmp, under}
use Rattle.fab_locks.proofs.Keys.{num_at}
use Rattle.fab_locks.proofs.Putting.{keeps_taken, puts_keep}
use Rattle.fab_locks.proofs.Tids.{one_tid}

one_number : (n m : ℕ) → is_at (nat_cmp n) m ≡ true → n ≡ m
one_number n m e = eqb-true n m (sym (num_at n m) ∙ e)

same_number : (n : ℕ) → (n == n) ≡ true
same_number n = eq-eqb n n refl

no_some : (n : ℕ) → Some n ≡ None → ⊥
no_some n e = cc

some_once : (n m : ℕ) → Some n ≡ Some m → n ≡ m
some_once n m e = cc

or_none : (b : Bool) → (b || false) ≡ b
or_none true = refl
or_none false = refl

and_none : (b : Bool) → (b && false) ≡ false
and_none true = refl
and_none false = refl

not_and_itself : (b : Bool) → (not b && b) ≡ false
not_and_itself true = refl
not_and_itself false = refl

-- ---- nothing is held

pub agrees_at_first : (es : Numbered) (index : Index) → es ≡ [] → index.places.entries ≡ [] → index.named.keys ≡ [] → index.changed.keys ≡ [] → Agrees es index
agrees_at_first es index none places named changed = record {
  found = λ t n h. absurd (no_some n (sym h ∙ ap (lookup (is_at (tid_cmp t))) places));
  all = λ t n h. absurd (true≢false (sym h ∙ ap (λ l. is_of t (under n l)) none));
  named = λ o n. ap (list_any (is_at (key_cmp (o, n)))) named ∙ sym (ap (λ l. passes (λ items. is_named items o) (under n l)) none);
  changed = λ o n. ap (list_any (is_at (key_cmp (o, n)))) changed ∙ sym (ap (λ l. passes (λ items. is_changed items o) (under n l)) none);
}

-- ---- a transaction is put under a number that isn't in use

module _ (held new_held : Numbered) (t : Tid) (items : Items) (n : ℕ) (free : under n held ≡ None)
    (more : (q : ℕ) → under q new_held ≡ cond (is_at (nat_cmp n) q) (Some (t, items)) (under q held)) where
  -- what is of a tid: the new one under its number, or one that was held
  of_new : (u : Tid) (m : ℕ) → is_at (nat_cmp n) m ≡ true → is_of u (under m new_held) ≡ is_tid t u
  of_new u m e = ap (is_of u) (more m ∙ ap (λ b. cond b (Some (t, items)) (under m held)) e)

  of_old : (u : Tid) (m : ℕ) → is_at (nat_cmp n) m ≡ false → is_of u (under m new_held) ≡ is_of u (under m held)
  of_old u m e = ap (is_of u) (more m ∙ ap (λ b. cond b (Some (t, items)) (under m held)) e)

  none_under : (u : Tid) (m : ℕ) → is_at (nat_cmp n) m ≡ true → is_of u (under m held) ≡ false
  none_under u m e = ap (λ k. is_of u (under k held)) (sym (one_number n m e)) ∙ ap (is_of u) free

  -- the numbers of tids
  module _ (places : (u : Tid) → Option ℕ) (new_places : (u : Tid) → Option ℕ) (absent : places t ≡ None)
      (put : (u : Tid) → new_places u ≡ cond (is_tid t u) (Some n) (places u)) where
    found_more : ((u : Tid) (m : ℕ) → places u ≡ Some m → is_of u (under m held) ≡ true)
        → (u : Tid) (m : ℕ) → new_places u ≡ Some m → is_of u (under m new_held) ≡ true
    found_more found u m h = by_tid (is_tid t u) refl
      where
        here : is_tid t u ≡ true → (k : ℕ) → Some n ≡ Some k → is_of u (under k new_held) ≡ true
        here e k same = of_new u k (num_at n k ∙ ap (λ j. n == j) (sym (some_once n k same)) ∙ same_number n) ∙ e

        there : (k : ℕ) → places u ≡ Some k → (b : Bool) → is_at (nat_cmp n) k ≡ b → is_of u (under k new_held) ≡ true
        there k was true e = absurd (true≢false (sym (found u k was) ∙ none_under u k e))
        there k was false e = of_old u k e ∙ found u k was

        by_tid : (b : Bool) → is_tid t u ≡ b → is_of u (under m new_held) ≡ true
        by_tid true e = here e m (sym (put u ∙ ap (λ b. cond b (Some n) (places u)) e) ∙ h)
        by_tid false e = there m (sym (put u ∙ ap (λ b. cond b (Some n) (places u)) e) ∙ h) (is_at (nat_cmp n) m) refl

    all_more : ((u : Tid) (m : ℕ) → is_of u (under m held) ≡ true → places u ≡ Some m)
        → (u : Tid) (m : ℕ) → is_of u (under m new_held) ≡ true → new_places u ≡ Some m
    all_more all u m h = by_number (is_at (nat_cmp n) m) refl
      where
        other : (b : Bool) → is_tid t u ≡ b → places u ≡ Some m → new_places u ≡ Some m
        other true e was =
            let is : t ≡ u = one_tid t u e in
            let none : places u ≡ None = subst (λ v. places v ≡ None) is absent in
            absurd (no_some m (sym was ∙ none))
        other false e was = put u ∙ ap (λ b. cond b (Some n) (places u)) e ∙ was

        by_number : (b : Bool) → is_at (nat_cmp n) m ≡ b → new_places u ≡ Some m
        by_number true e = put u ∙ ap (λ b. cond b (Some n) (places u)) (sym (of_new u m e) ∙ h) ∙ ap (λ k. Some k) (one_number n m e)
        by_number false e = other (is_tid t u) refl (all u m (sym (of_old u m e) ∙ h))

  -- the names under numbers
  names_more : (test : Items → Oid → Bool) (old new : BTreeSet Key) → Puts (test items) n old new
      → ((o : Oid) (m : ℕ) → has old o m ≡ passes (λ i. test i o) (under m held))
      → (o : Oid) (m : ℕ) → has new o m ≡ passes (λ i. test i o) (under m new_held)
  names_more test old new p was o m = by_number (n == m) refl
    where
      by_number : (b : Bool) → (n == m) ≡ b → has new o m ≡ passes (λ i. test i o) (under m new_held)
      by_number true e =
          let number : n ≡ m = eqb-true n m e in
          let nothing : has old o m ≡ false =
          was o m ∙ ap (λ k. passes (λ i. test i o) (under k held)) (sym number) ∙ ap (passes (λ i. test i o)) free in
          p.at o m
          ∙ (λ i. (e i && test items o) || nothing i)
          ∙ or_none (test items o)
          ∙ sym (ap (passes (λ i. test i o)) (more m ∙ ap (λ b. cond b (Some (t, items)) (under m held)) (num_at n m ∙ e)))
      by_number false e =
          p.at o m
          ∙ ap (λ b. (b && test items o) || has old o m) e
          ∙ was o m
          ∙ sym (ap (passes (λ i. test i o)) (more m ∙ ap (λ b. cond b (Some (t, items)) (under m held)) (num_at n m ∙ e)))

  pub agrees_more : (old new : Index) → Agrees held old → get tid_cmp old.places t ≡ None → Put t items n old new → Agrees new_held new
  agrees_more old new a absent p = record {
    found = found_more (get tid_cmp old.places) (get tid_cmp new.places) absent p.places a.found;
    all = all_more (get tid_cmp old.places) (get tid_cmp new.places) absent p.places a.all;
    named = names_more is_named old.named new.named p.named a.named;
    changed = names_more is_changed old.changed new.changed p.changed a.changed;
  }

-- ---- what was in part is taken out again

-- a transaction that isn't there is taken out
module _ (held : Numbered) (t : Tid) (items : Items) (n : ℕ) (free : under n held ≡ None) where
  names_same : (test : Items → Oid → Bool) (old new : BTreeSet Key) → Takes (test items) n old new
      → ((o : Oid) (m : ℕ) → has old o m ≡ passes (λ i. test i o) (under m held))
      → (o : Oid) (m : ℕ) → has new o m ≡ passes (λ i. test i o) (under m held)
  names_same test old new p was o m = p.at o m ∙ by_number (n == m) refl
    where
      by_number : (b : Bool) → (n == m) ≡ b → (not ((n == m) && test items o) && has old o m) ≡ passes (λ i. test i o) (under m held)
      by_number true e =
          let number : n ≡ m = eqb-true n m e in
          let none : passes (λ i. test i o) (under m held) ≡ false =
          ap (λ k. passes (λ i. test i o) (under k held)) (sym number) ∙ ap (passes (λ i. test i o)) free in
          ap (λ b. not ((n == m) && test items o) && b) (was o m ∙ none) ∙ and_none (not ((n == m) && test items o)) ∙ sym none
      by_number false e = ap (λ b. not (b && test items o) && has old o m) e ∙ was o m

  pub agrees_same : (old new : Index) → Agrees held old → get tid_cmp old.places t ≡ None → Taken t items n old new → Agrees held new
  agrees_same old new a absent p = record {
    found = λ u m h. a.found u m (kept u ∙ h);
    all = λ u m h. sym (kept u) ∙ a.all u m h;
    named = names_same is_named old.named new.named p.named a.named;
    changed = names_same is_changed old.changed new.changed p.changed a.changed;
  }
    where
      kept : (u : Tid) → get tid_cmp old.places u ≡ get tid_cmp new.places u
      kept u = by_tid (is_tid t u) refl
        where
          by_tid : (b : Bool) → is_tid t u ≡ b → get tid_cmp old.places u ≡ get tid_cmp new.places u
          by_tid true e =
              sym (ap (get tid_cmp old.places) (one_tid t u e)) ∙ absent
              ∙ sym (p.places u ∙ ap (λ b. cond b None (get tid_cmp old.places u)) e)
          by_tid false e = sym (p.places u ∙ ap (λ b. cond b None (get tid_cmp old.places u)) e)

pub taken_behind_part : (t : Tid) (items : Items) (n : ℕ) (old mid new : Index) → MayPut items n old mid → Taken t items n mid new → Taken t items n old new
taken_behind_part t items n old mid new h k = record {
  places = λ u. k.places u ∙ ap (λ r. cond (is_tid t u) None r) (h.places u);
  named = keeps_taken (is_named items) n old.named mid.named new.named h.named k.named;
  changed = keeps_taken (is_changed items) n old.changed mid.changed new.changed h.changed k.changed;
}

pub taken_behind_put : (t : Tid) (items : Items) (n : ℕ) (old mid new : Index) → Put t items n old mid → Taken t items n mid new → Taken t items n old new
taken_behind_put t items n old mid new h k = record {
  places = λ u. k.places u ∙ ap (λ r. cond (is_tid t u) None r) (h.places u) ∙ twice (is_tid t u) (get tid_cmp old.places u);
  named = keeps_taken (is_named items) n old.named mid.named new.named (puts_keep (is_named items) n old.named mid.named h.named) k.named;
  changed = keeps_taken (is_changed items) n old.changed mid.changed new.changed (puts_keep (is_changed items) n old.changed mid.changed h.changed) k.changed;
}
  where
    twice : (b : Bool) (r : Option ℕ) → cond b None (cond b (Some n) r) ≡ cond b None r
    twice true r = refl
    twice false r = refl

-- ---- a held transaction is taken out

module _ (held new_held : Numbered) (t : Tid) (p : Prepared) (n : ℕ) (there : under n held ≡ Some p) (tid_is : is_tid p.0 t ≡ true)
    (less : (q : ℕ) → under q new_held ≡ cond (is_at (nat_cmp n) q) None (under q held)) where
  gone : (u : Tid) (m : ℕ) → is_at (nat_cmp n) m ≡ true → is_of u (under m new_held) ≡ false
  gone u m e = ap (is_of u) (less m ∙ ap (λ b. cond b None (under m held)) e)

  stays : (u : Tid) (m : ℕ) → is_at (nat_cmp n) m ≡ false → is_of u (under m new_held) ≡ is_of u (under m held)
  stays u m e = ap (is_of u) (less m ∙ ap (λ b. cond b None (under m held)) e)

  was_there : (u : Tid) (m : ℕ) → is_at (nat_cmp n) m ≡ true → is_of u (under m held) ≡ is_tid t u
  was_there u m e =
      ap (λ k. is_of u (under k held)) (sym (one_number n m e)) ∙ ap (is_of u) there ∙ ap (λ v. is_tid v u) (one_tid p.0 t tid_is)

  names_less : (test : Items → Oid → Bool) (old new : BTreeSet Key) → Takes (test p.1) n old new
      → ((o : Oid) (m : ℕ) → has old o m ≡ passes (λ i. test i o) (under m held))
      → (o : Oid) (m : ℕ) → has new o m ≡ passes (λ i. test i o) (under m new_held)
  names_less test old new k was o m = by_number (n == m) refl
    where
      by_number : (b : Bool) → (n == m) ≡ b → has new o m ≡ passes (λ i. test i o) (under m new_held)
      by_number true e =
          let number : n ≡ m = eqb-true n m e in
          let it : has old o m ≡ test p.1 o =
          was o m ∙ ap (λ j. passes (λ i. test i o) (under j held)) (sym number) ∙ ap (passes (λ i. test i o)) there in
          k.at o m
          ∙ (λ i. not (e i && test p.1 o) && it i)
          ∙ not_and_itself (test p.1 o)
          ∙ sym (ap (passes (λ i. test i o)) (less m ∙ ap (λ b. cond b None (under m held)) (num_at n m ∙ e)))
      by_number false e =
          k.at o m
          ∙ ap (λ b. not (b && test p.1 o) && has old o m) e
          ∙ was o m
          ∙ sym (ap (passes (λ i. test i o)) (less m ∙ ap (λ b. cond b None (under m held)) (num_at n m ∙ e)))

  pub agrees_less : (old new : Index) → Agrees held old → Taken t p.1 n old new → Agrees new_held new
  agrees_less old new a k = record {
    found = found_less;
    all = all_less;
    named = names_less is_named old.named new.named k.named a.named;
    changed = names_less is_changed old.changed new.changed k.changed a.changed;
  }
    where
      -- it stood under the number n and no other
      number_of_it : (u : Tid) (m : ℕ) → is_tid t u ≡ true → is_of u (under m held) ≡ true → is_at (nat_cmp n) m ≡ true
      number_of_it u m e h =
          let under : get tid_cmp old.places u ≡ Some n =
          a.all u n (ap (is_of u) there ∙ ap (λ v. is_tid v u) (one_tid p.0 t tid_is) ∙ e) in
          let number : n ≡ m = some_once n m (sym under ∙ a.all u m h) in
          num_at n m ∙ ap (λ j. n == j) (sym number) ∙ same_number n

      found_less : (u : Tid) (m : ℕ) → get tid_cmp new.places u ≡ Some m → is_of u (under m new_held) ≡ true
      found_less u m h = by_tid (is_tid t u) refl
        where
          other : is_tid t u ≡ false → is_of u (under m held) ≡ true → (b : Bool) → is_at (nat_cmp n) m ≡ b → is_of u (under m new_held) ≡ true
          other e was true f = absurd (true≢false (sym was ∙ was_there u m f ∙ e))
          other e was false f = stays u m f ∙ was

          by_tid : (b : Bool) → is_tid t u ≡ b → is_of u (under m new_held) ≡ true
          by_tid true e = absurd (no_some m (sym h ∙ k.places u ∙ ap (λ b. cond b None (get tid_cmp old.places u)) e))
          by_tid false e =
              other e (a.found u m (sym (k.places u ∙ ap (λ b. cond b None (get tid_cmp old.places u)) e) ∙ h)) (is_at (nat_cmp n) m) refl

      all_less : (u : Tid) (m : ℕ) → is_of u (under m new_held) ≡ true → get tid_cmp new.places u ≡ Some m
      all_less u m h = by_number (is_at (nat_cmp n) m) refl
        where
          by_tid : is_at (nat_cmp n) m ≡ false → is_of u (under m held) ≡ true → (b : Bool) → is_tid t u ≡ b → get tid_cmp new.places u ≡ Some m
          by_tid f was true e = absurd (true≢false (sym (number_of_it u m e was) ∙ f))
          by_tid f was false e = k.places u ∙ ap (λ b. cond b None (get tid_cmp old.places u)) e ∙ a.all u m was

          by_number : (b : Bool) → is_at (nat_cmp n) m ≡ b → get tid_cmp new.places u ≡ Some m
          by_number true e = absurd (true≢false (sym h ∙ gone u m e))
          by_number false e = by_tid e (sym (stays u m e) ∙ h) (is_tid t u) refl
