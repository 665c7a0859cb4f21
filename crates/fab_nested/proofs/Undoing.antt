-- The log of changes, with marks: the heaps at the marks are as they were when the marks were set.
use Rattle.std.proofs.Common.{◌≡◌, ℕ, zero, suc, ◌≤◌, List, [], ◌∷◌, ◌++◌, length, map, reverse, take, drop, Option, Some, None, option_to_list, append-nil, refl, sym, ap, ◌∙◌, subst, arith}
use Rattle.std.proofs.lemmas.List.{length_push, take-append-le, drop-append-le, drop_all, map_push, reverse-append, length-take-le}
use Rattle.fab_base.specs.declared.object.Oid.{Oid}
use Rattle.fab_language.specs.Heaps.{Heap}
use Rattle.fab_nested.specs.declared.log.Change.{Change}
use Rattle.fab_base.specs.FlatMap.{FlatMap}
use Rattle.fab_nested.specs.Nested.{Nested, entered, aborted, back_to}
use Rattle.fab_nested.specs.Logs.{before, before_all, heap_at, saved_in, noted_change, IsBelow, AreMarks, IsSound, AreSound, IsLogged}
use Rattle.fab_nested.specs.Overlay.{over, framed}

-- ---- marks

marks_more : (marks : List ℕ) (n m : ℕ) → n ≤ m → AreMarks marks n → AreMarks marks m
marks_more [] n m le h = tt
marks_more (k ∷ marks) n m le h = (let a = h.0 in omega arith, h.1, marks_more marks n m le h.2)

below_push : (k : ℕ) (marks : List ℕ) (n : ℕ) → k ≤ n → IsBelow k marks → IsBelow k (marks ++ n ∷ [])
below_push k [] n le h = (le, tt)
below_push k (j ∷ marks) n le h = (h.0, below_push k marks n le h.1)

marks_push : (marks : List ℕ) (n : ℕ) → AreMarks marks n → AreMarks (marks ++ n ∷ []) n
marks_push [] n h = (omega arith, tt, tt)
marks_push (k ∷ marks) n h = (h.0, below_push k marks n h.0 h.1, marks_push marks n h.2)

below_last : (k : ℕ) (marks : List ℕ) (n : ℕ) → IsBelow k (marks ++ n ∷ []) → (k ≤ n) × IsBelow k marks
below_last k [] n h = (h.0, tt)
below_last k (j ∷ marks) n h = let r = below_last k marks n h.1 in (r.0, (h.0, r.1))

-- without the last mark, the others are up to it
marks_pop : (marks : List ℕ) (k n : ℕ) → AreMarks (marks ++ k ∷ []) n → AreMarks marks k × (k ≤ n)
marks_pop [] k n h = (tt, h.0)
marks_pop (j ∷ marks) k n h =
    let b = below_last j marks k h.1 in
    let r = marks_pop marks k n h.2 in
    ((b.0, b.1, r.0), r.1)

-- ---- heaps at marks

before_all-push : (cs : List Change) (c : Change) (h : Heap) → before_all (cs ++ c ∷ []) h ≡ before_all cs (before c h)
before_all-push [] c h = refl
before_all-push (d ∷ cs) c h = ap (before d) (before_all-push cs c h)

heap_at_same : (log : List Change) (c : Change) (h new : Heap) → before c new ≡ h → (k : ℕ) → k ≤ length log → heap_at (log ++ c ∷ []) new k ≡ heap_at log h k
heap_at_same log c h new e k le =
    ap (λ cs. before_all cs new) (drop-append-le k log (c ∷ []) le)
    ∙ before_all-push (drop k log) c new
    ∙ ap (before_all (drop k log)) e

-- two ways to have a heap at a mark that agree up to some mark
same_at : (f g : ℕ → Heap) (n : ℕ) → ((k : ℕ) → k ≤ n → f k ≡ g k) → (marks : List ℕ) → AreMarks marks n → map f marks ≡ map g marks
same_at f g n same [] h = refl
same_at f g n same (k ∷ marks) h = λ i. same k h.0 i ∷ same_at f g n same marks h.2 i

pub saved_noted : (marks : List ℕ) (c : Change) (log : List Change) (h new : Heap) → AreMarks marks (length log) → before c new ≡ h → saved_in (noted_change marks c log) new marks ≡ saved_in log h marks
saved_noted [] c log h new a e = refl
saved_noted (k ∷ marks) c log h new a e = ap reverse (same_at (heap_at (log ++ c ∷ []) new) (heap_at log h) (length log) (heap_at_same log c h new e) (k ∷ marks) a)

saved_last : (log : List Change) (h : Heap) (marks : List ℕ) (k : ℕ) → saved_in log h (marks ++ k ∷ []) ≡ heap_at log h k ∷ saved_in log h marks
saved_last log h marks k = ap reverse (map_push (heap_at log h) marks k) ∙ reverse-append (map (heap_at log h) marks) (heap_at log h k ∷ [])

pub saved_entered : (log : List Change) (h : Heap) (marks : List ℕ) → saved_in log h (marks ++ length log ∷ []) ≡ h ∷ saved_in log h marks
saved_entered log h marks = saved_last log h marks (length log) ∙ ap (λ cs. before_all cs h ∷ saved_in log h marks) (drop_all (length log) log (omega arith))

-- what was undone up to a mark is undone further
further : (log : List Change) (j k : ℕ) → j ≤ k → (h : Heap) → before_all (drop j (take k log)) (before_all (drop k log) h) ≡ before_all (drop j log) h
further [] zero zero le h = refl
further [] zero (suc k) le h = refl
further [] (suc j) zero le h = refl
further [] (suc j) (suc k) le h = refl
further (c ∷ log) zero zero le h = refl
further (c ∷ log) (suc j) zero le h = absurd (omega arith)
further (c ∷ log) zero (suc k) le h = ap (before c) (further log zero k (omega arith) h)
further (c ∷ log) (suc j) (suc k) le h = further log j k (omega arith) h

-- ---- what holds at all times

pub logged_noted : (marks : List ℕ) (c : Change) (log : List Change) (h new : Heap) → IsLogged log h marks → before c new ≡ h → IsSound new → IsLogged (noted_change marks c log) new marks
logged_noted marks c log h new l e s = record {
  in_order = longer marks l.in_order;
  now = s;
  saved = subst AreSound (sym (saved_noted marks c log h new l.in_order e)) l.saved;
}
  where
    longer : (ms : List ℕ) → AreMarks ms (length log) → AreMarks ms (length (noted_change marks c log))
    longer ms a = marks_more ms (length log) (length (noted_change marks c log)) (by marks) a
      where
        by : (ks : List ℕ) → length log ≤ length (noted_change ks c log)
        by [] = omega arith
        by (k ∷ ks) = omega (arith, length_push log c)

pub logged_entered : (log : List Change) (h : Heap) (marks : List ℕ) → IsLogged log h marks → IsLogged log h (marks ++ length log ∷ [])
logged_entered log h marks l = record {
  in_order = marks_push marks (length log) l.in_order;
  now = l.now;
  saved = subst AreSound (sym (saved_entered log h marks)) (l.now, l.saved);
}

-- the last mark is gone, and the heap goes back to it
module _ (log : List Change) (h : Heap) (marks : List ℕ) (k : ℕ) (l : IsLogged log h (marks ++ k ∷ [])) where
  up_to : AreMarks marks k × (k ≤ length log)
  up_to = marks_pop marks k (length log) l.in_order

  was_sound : AreSound (heap_at log h k ∷ saved_in log h marks)
  was_sound = subst AreSound (saved_last log h marks k) l.saved

  pub saved_aborted : saved_in (take k log) (heap_at log h k) marks ≡ saved_in log h marks
  saved_aborted = ap reverse (same_at (heap_at (take k log) (heap_at log h k)) (heap_at log h) k (λ j le. further log j k le h) marks up_to.0)

  pub logged_aborted : IsLogged (take k log) (heap_at log h k) marks
  logged_aborted = record {
    in_order = let le = up_to.1 in marks_more marks k (length (take k log)) (omega (arith, length-take-le k log le)) up_to.0;
    now = was_sound.0;
    saved = subst AreSound (sym saved_aborted) was_sound.1;
  }

  pub logged_merged : IsLogged log h marks
  logged_merged = record {
    in_order = marks_more marks k (length log) up_to.1 up_to.0;
    now = l.now;
    saved = was_sound.1;
  }

-- where there is no mark, the log may be any
pub logged_bare : (log other : List Change) (h : Heap) → IsLogged log h [] → IsLogged other h []
logged_bare log other h l = record { in_order = tt; now = l.now; saved = tt }

-- ---- the steps of the calls

-- one change more is undone
module _ (log was : List Change) (c : Change) (mark : ℕ) (e : was ≡ log ++ c ∷ []) (le : mark ≤ length log) where
  pub one_back : (h new to : Heap) → new ≡ before c h → before_all (drop mark was) h ≡ to → before_all (drop mark log) new ≡ to
  one_back h new to f g =
      ap (before_all (drop mark log)) f
      ∙ sym (before_all-push (drop mark log) c h)
      ∙ ap (λ cs. before_all cs h) (sym (ap (drop mark) e ∙ drop-append-le mark log (c ∷ []) le))
      ∙ g

  pub front_stays : (to : List Change) → take mark was ≡ to → take mark log ≡ to
  front_stays to g = sym (ap (take mark) e ∙ take-append-le mark log (c ∷ []) le) ∙ g

-- a change is noted
module _ (log later reserved : List Change) (c : Change) (h new : Heap) (marks told : List ℕ) (l : IsLogged log h marks) (back : before c new ≡ h) (e : later ≡ noted_change told c reserved) (f : told ≡ marks) (g : reserved ≡ log) where
  whole : later ≡ noted_change marks c log
  whole = e ∙ (λ i. noted_change (f i) c (g i))

  pub later_logged : IsSound new → IsLogged later new marks
  later_logged s = subst (λ cs. IsLogged cs new marks) (sym whole) (logged_noted marks c log h new l back s)

  pub later_saved : saved_in later new marks ≡ saved_in log h marks
  later_saved = ap (λ cs. saved_in cs new marks) whole ∙ saved_noted marks c log h new l.in_order back

-- the last mark is taken off
module _ (log : List Change) (h : Heap) (marks others : List ℕ) (k : ℕ) (l : IsLogged log h marks) (e : marks ≡ others ++ k ∷ []) where
  with_last : IsLogged log h (others ++ k ∷ [])
  with_last = subst (IsLogged log h) e l

  pub merged_logged : IsLogged log h others
  merged_logged = logged_merged log h others k with_last

  -- and what was done since is undone
  module _ (later : List Change) (new : Heap) (f : new ≡ heap_at log h k) (g : later ≡ take k log) where
    pub aborted_logged : IsLogged later new others
    aborted_logged = rw (f, g) (logged_aborted log h others k with_last)

    saved_stay : saved_in later new others ≡ saved_in log h others
    saved_stay = (λ i. saved_in (g i) (f i) others) ∙ saved_aborted log h others k with_last

    pub aborted_is : (versions : List (Oid × ℕ)) (known : FlatMap) (touches : List (ℕ × Oid)) (n : Nested) → framed versions known log h marks touches ≡ n → framed versions known later new others touches ≡ aborted n
    aborted_is versions known touches n seen =
        (λ i. record { versions = versions; now = over known (f i); saved = map (over known) (saved_stay i); touches = touches })
        ∙ ap (λ hs. back_to (map (over known) hs) (framed versions known log h marks touches)) (sym (ap (saved_in log h) e ∙ saved_last log h others k))
        ∙ ap aborted seen

-- whether there is a mark or not
pub popped_logged : (log : List Change) (h : Heap) (marks others : List ℕ) (r : Option ℕ) → IsLogged log h marks → marks ≡ others ++ option_to_list r → IsLogged log h others
popped_logged log h marks others None l e = subst (IsLogged log h) (e ∙ append-nil others) l
popped_logged log h marks others (Some k) l e = merged_logged log h marks others k l e

-- the heap is saved
pub entered_is : (versions : List (Oid × ℕ)) (known : FlatMap) (log : List Change) (h : Heap) (marks later : List ℕ) (touches : List (ℕ × Oid)) (n : Nested) → later ≡ marks ++ length log ∷ [] → framed versions known log h marks touches ≡ n → framed versions known log h later touches ≡ entered n
entered_is versions known log h marks later touches n e seen =
    (λ i. record { versions = versions; now = over known h; saved = map (over known) ((ap (saved_in log h) e ∙ saved_entered log h marks) i); touches = touches })
    ∙ ap entered seen
