-- Transactions in two lists, one behind the other: what a look-up in both finds, and what is left when one goes.
use Rattle.std.proofs.Common.{◌≡◌, Bool, true, false, not, ◌||◌, List, [], ◌∷◌, ◌++◌, Option, Some, None, MatchOption, reverse, refl, sym, subst, ap, ◌∙◌, append_assoc}
use Rattle.std.proofs.lemmas.List.{reverse-append, reverse-reverse}
use Rattle.std.specs.List.{find}
use Rattle.std.specs.Option.{option_map, option_or}
use Rattle.std.proofs.lemmas.Bool.{true≢false, or_parts}
use Rattle.std.proofs.lemmas.List.Elements.{filter-append}
use Rattle.std.proofs.lemmas.List.Folds.{find-append, list_any-append}
use Rattle.fab_base.specs.declared.object.Oid.{Oid}
use Rattle.fab_base.specs.declared.object.Tid.{Tid}
use Rattle.fab_base.specs.declared.message.Items.{Items}
use Rattle.fab_protocol.specs.Versions.{is_tid}
use Rattle.fab_protocol.specs.Stores.{Prepared, prepared_as, without}
use Rattle.fab_locks.specs.Conflicts.{AreDistinct, bars, first_barring, holds_tid}
use Rattle.fab_locks.proofs.Tids.{distinct_filter, distinct_push, holds_here, kept_here, kept_past, one_tid, prepared_absent, tid_self, without_absent}

-- ---- the first that bars a name

of_either : (a b : Option Prepared) → option_map (λ p. p.0) (option_or a b) ≡ option_or (option_map (λ p. p.0) a) (option_map (λ p. p.0) b)
of_either None b = refl
of_either (Some p) b = refl

module _ (o : Oid) (writing : Bool) (xs ys : List Prepared) where
  barring_either : first_barring o writing (xs ++ ys) ≡ option_or (first_barring o writing xs) (first_barring o writing ys)
  barring_either =
      ap (λ r. option_map (λ p. p.0) r) (find-append (λ p. bars o writing p.1) xs ys)
      ∙ of_either (find (λ p. bars o writing p.1) xs) (find (λ p. bars o writing p.1) ys)

  pub barring_first : (t : Tid) → Some t ≡ first_barring o writing xs → Some t ≡ first_barring o writing (xs ++ ys)
  barring_first t h = ap (λ r. option_or r (first_barring o writing ys)) h ∙ sym barring_either

  pub barring_behind : (r : Option Tid) → None ≡ first_barring o writing xs → r ≡ first_barring o writing ys → r ≡ first_barring o writing (xs ++ ys)
  barring_behind r none h = h ∙ ap (λ a. option_or a (first_barring o writing ys)) none ∙ sym barring_either

-- ---- tids in one of them

pub held_either : (t : Tid) (xs ys : List Prepared) → holds_tid t (xs ++ ys) ≡ (holds_tid t xs || holds_tid t ys)
held_either t xs ys = list_any-append (λ p. is_tid p.0 t) xs ys

pub distinct_behind : (xs ys : List Prepared) → AreDistinct (xs ++ ys) → AreDistinct ys
distinct_behind [] ys h = h
distinct_behind (x ∷ xs) ys h = distinct_behind xs ys h.1

-- who is held in the first isn't in the second
absent_behind_held : (t : Tid) (xs ys : List Prepared) → AreDistinct (xs ++ ys) → holds_tid t xs ≡ true → holds_tid t ys ≡ false
absent_behind_held t [] ys h held = absurd (true≢false (sym held))
absent_behind_held t (x ∷ xs) ys h held = step (λ k. absent_behind_held t xs ys h.1 k) (is_tid x.0 t) refl held
  where
    step : (holds_tid t xs ≡ true → holds_tid t ys ≡ false) → (b : Bool) → is_tid x.0 t ≡ b → (b || holds_tid t xs) ≡ true → holds_tid t ys ≡ false
    step rest true is k =
        (or_parts (holds_tid t xs) (holds_tid t ys) (sym (held_either t xs ys) ∙ subst (λ u. holds_tid u (xs ++ ys) ≡ false) (one_tid x.0 t is) h.0)).1
    step rest false is k = rest k

-- and who is held in the second isn't in the first
absent_before_held : (t : Tid) (xs ys : List Prepared) → AreDistinct (xs ++ ys) → holds_tid t ys ≡ true → holds_tid t xs ≡ false
absent_before_held t xs ys h held = step (holds_tid t xs) refl
  where
    step : (b : Bool) → holds_tid t xs ≡ b → holds_tid t xs ≡ false
    step false e = e
    step true e = absurd (true≢false (sym held ∙ absent_behind_held t xs ys h e))

-- ---- one goes

held_since : (t : Tid) (xs : List Prepared) (p : Prepared) → prepared_as t xs ≡ p ∷ [] → holds_tid t xs ≡ true
held_since t xs p h = step (holds_tid t xs) refl
  where
    step : (b : Bool) → holds_tid t xs ≡ b → holds_tid t xs ≡ true
    step true e = e
    step false e = absurd (no_nil p (sym h ∙ prepared_absent t xs e))
      where
        no_nil : (q : Prepared) → q ∷ [] ≡ [] → ⊥
        no_nil q same = cc

-- where none goes, all stay
none_left : (t : Tid) (ps : List Prepared) → prepared_as t ps ≡ [] → without t ps ≡ ps
none_left t [] h = refl
none_left t (p ∷ ps) h = step (λ k. none_left t ps k) (is_tid p.0 t) refl h
  where
    no_nil : (q : Prepared) (qs : List Prepared) → q ∷ qs ≡ [] → ⊥
    no_nil q qs same = cc

    step : (prepared_as t ps ≡ [] → without t ps ≡ ps) → (b : Bool) → is_tid p.0 t ≡ b → prepared_as t (p ∷ ps) ≡ [] → without t (p ∷ ps) ≡ p ∷ ps
    step rest true e k = absurd (no_nil p (prepared_as t ps) (sym (kept_here (λ q. is_tid q.0 t) p ps e) ∙ k))
    step rest false e k =
        kept_here (λ q. not (is_tid q.0 t)) p ps (ap not e) ∙ ap (λ l. p ∷ l) (rest (sym (kept_past (λ q. is_tid q.0 t) p ps e) ∙ k))

module _ (t : Tid) (xs ys : List Prepared) where
  prepared_either : prepared_as t (xs ++ ys) ≡ prepared_as t xs ++ prepared_as t ys
  prepared_either = filter-append (λ p. is_tid p.0 t) xs ys

  pub without_either : without t xs ++ without t ys ≡ without t (xs ++ ys)
  without_either = sym (filter-append (λ p. not (is_tid p.0 t)) xs ys)

  module _ (p : Prepared) (distinct : AreDistinct (xs ++ ys)) (was : prepared_as t xs ≡ p ∷ []) where
    absent : holds_tid t ys ≡ false
    absent = absent_behind_held t xs ys distinct (held_since t xs p was)

    pub freed_first : prepared_as t (xs ++ ys) ≡ p ∷ []
    freed_first = prepared_either ∙ (λ i. was i ++ prepared_absent t ys absent i)

    pub left_first : without t xs ++ ys ≡ without t (xs ++ ys)
    left_first = ap (λ l. without t xs ++ l) (sym (without_absent t ys absent)) ∙ without_either

  module _ (p : Prepared) (distinct : AreDistinct (xs ++ ys)) (was : prepared_as t ys ≡ p ∷ []) where
    absent_before : holds_tid t xs ≡ false
    absent_before = absent_before_held t xs ys distinct (held_since t ys p was)

    freed_second : prepared_as t (xs ++ ys) ≡ p ∷ []
    freed_second = prepared_either ∙ (λ i. prepared_absent t xs absent_before i ++ was i)

    left_second : xs ++ without t ys ≡ without t (xs ++ ys)
    left_second = ap (λ l. l ++ without t ys) (sym (without_absent t xs absent_before)) ∙ without_either

  -- where it is one of the second, it goes, and else nothing does
  module _ (distinct : AreDistinct (xs ++ ys)) (left : List Prepared) (is : left ≡ without t ys) where
    pub freed_newest : (r : Option Items) → MatchOption r (prepared_as t ys ≡ []) (λ items. prepared_as t ys ≡ (t, items) ∷ [])
        → MatchOption r (xs ++ left ≡ xs ++ ys) (λ items. (prepared_as t (xs ++ ys) ≡ (t, items) ∷ []) × (xs ++ left ≡ without t (xs ++ ys)))
    freed_newest None h = ap (λ l. xs ++ l) (is ∙ none_left t ys h)
    freed_newest (Some items) h = (freed_second (t, items) distinct h, ap (λ l. xs ++ l) is ∙ left_second (t, items) distinct h)

    pub distinct_newest : (r : Option Items) → MatchOption r (prepared_as t ys ≡ []) (λ items. prepared_as t ys ≡ (t, items) ∷ [])
        → AreDistinct (xs ++ left)
    distinct_newest None h = subst (λ l. AreDistinct (xs ++ l)) (sym (is ∙ none_left t ys h)) distinct
    distinct_newest (Some items) h =
        subst AreDistinct (sym (ap (λ l. xs ++ l) is ∙ left_second (t, items) distinct h)) (distinct_filter (λ p. not (is_tid p.0 t)) (xs ++ ys) distinct)

  pub freed_behind : (r : Option Items) → prepared_as t xs ≡ []
      → MatchOption r (prepared_as t ys ≡ []) (λ items. prepared_as t ys ≡ (t, items) ∷ [])
      → MatchOption r (prepared_as t (xs ++ ys) ≡ []) (λ items. prepared_as t (xs ++ ys) ≡ (t, items) ∷ [])
  freed_behind None none h = prepared_either ∙ (λ i. none i ++ h i)
  freed_behind (Some items) none h = prepared_either ∙ (λ i. none i ++ h i)

pub distinct_left : (t : Tid) (xs new : List Prepared) → AreDistinct xs → new ≡ without t xs → AreDistinct new
distinct_left t xs new h is = subst AreDistinct (sym is) (distinct_filter (λ p. not (is_tid p.0 t)) xs h)

pub freed_along : (t : Tid) (ps qs : List Prepared) → ps ≡ qs → (r : Option Items)
    → MatchOption r (prepared_as t ps ≡ []) (λ items. prepared_as t ps ≡ (t, items) ∷ [])
    → MatchOption r (prepared_as t qs ≡ []) (λ items. prepared_as t qs ≡ (t, items) ∷ [])
freed_along t ps qs same r h = subst (λ l. MatchOption r (prepared_as t l ≡ []) (λ items. prepared_as t l ≡ (t, items) ∷ [])) same h

-- ---- one more

pub more_beside : (xs ys now then : List Prepared) (p q : Prepared) → now ≡ xs → then ≡ ys ++ q ∷ [] → q ≡ p → now ++ then ≡ (xs ++ ys) ++ p ∷ []
more_beside xs ys now then p q same more is =
    (λ i. same i ++ more i) ∙ ap (λ r. xs ++ (ys ++ r ∷ [])) is ∙ sym (append_assoc xs ys (p ∷ []))

pub distinct_more : (xs ys now : List Prepared) (t : Tid) (items : Items) → AreDistinct (xs ++ ys) → holds_tid t (xs ++ ys) ≡ false
    → now ≡ (xs ++ ys) ++ (t, items) ∷ [] → AreDistinct now
distinct_more xs ys now t items h absent is = subst AreDistinct (sym is) (distinct_push (xs ++ ys) t items h absent)

-- ---- from the end of a list, in which they stand backwards, into the indexes

pub moved : (xs now list rest : List Prepared) (p : Prepared) → now ≡ xs ++ p ∷ [] → list ≡ rest ++ p ∷ [] → now ++ reverse rest ≡ xs ++ reverse list
moved xs now list rest p more is =
    ap (λ l. l ++ reverse rest) more
    ∙ append_assoc xs (p ∷ []) (reverse rest)
    ∙ ap (λ l. xs ++ l) (sym (ap reverse is ∙ reverse-append rest (p ∷ [])))

-- whoever is next isn't among the indexed ones
pub next_is_new : (xs list rest : List Prepared) (p : Prepared) → AreDistinct (xs ++ reverse list) → list ≡ rest ++ p ∷ [] → holds_tid p.0 xs ≡ false
next_is_new xs list rest p h is = step (holds_tid p.0 xs) refl
  where
    behind : AreDistinct (xs ++ p ∷ reverse rest)
    behind = subst (λ l. AreDistinct (xs ++ l)) (ap reverse is ∙ reverse-append rest (p ∷ [])) h

    step : (b : Bool) → holds_tid p.0 xs ≡ b → holds_tid p.0 xs ≡ false
    step false e = e
    step true e = absurd (true≢false (sym (holds_here p (reverse rest) p.0 (tid_self p.0)) ∙ absent_behind_held p.0 xs (p ∷ reverse rest) behind e))

-- turned twice a list is as it was
pub turned_twice : (ys back : List Prepared) → back ≡ reverse ys → reverse back ≡ ys
turned_twice ys back is = ap reverse is ∙ reverse-reverse ys
