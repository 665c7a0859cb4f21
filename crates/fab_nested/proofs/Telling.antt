-- What was written and made is told from the changed objects alone.
use Rattle.std.proofs.Common.{◌≡◌, ℕ, ◌≤◌, Bool, true, false, ◌||◌, if◌then◌else◌, List, length, map, take, Option, Some, None, is_some, refl, sym, ap, ◌∙◌}
use Rattle.std.proofs.lemmas.List.{take_all}
use Rattle.fab_base.specs.declared.object.Oid.{Oid}
use Rattle.fab_base.specs.declared.object.Object.{Object}
use Rattle.fab_base.specs.FlatMap.{FlatMap, get}
use Rattle.fab_language.specs.Heaps.{Heap, is_among, is_changed}
use Rattle.fab_map.proofs.Rows.{same_from_get}
use Rattle.fab_nested.specs.declared.log.Change.{Change}
use Rattle.fab_nested.specs.Logs.{IsSound}
use Rattle.fab_nested.specs.Nested.{Nested, Answers, changed_in, version_of, writes_in, creates_in}
use Rattle.fab_nested.specs.Overlay.{framed, IsFramed}
use Rattle.fab_nested.proofs.Over.{ascends_only, get_only, only_over}

none_from : (found : Option Object) → is_some found ≡ false → found ≡ None
none_from None h = refl
none_from (Some x) h = cc

or_first : (a b : Bool) → a ≡ true → (a || b) ≡ true
or_first a b e = ap (λ c. c || b) e

pub or_second : (a b : Bool) → b ≡ true → (a || b) ≡ true
or_second true b e = refl
or_second false b e = e

pub written_there : (h : Heap) → IsSound h → (o : Oid) → is_among o h.written ≡ true → is_some (get h.rows o) ≡ true
written_there h s o e = s.there o ∙ or_second (is_among o h.made) (is_among o h.written) e

pub made_there : (h : Heap) → IsSound h → (o : Oid) → is_among o h.made ≡ true → is_some (get h.rows o) ≡ true
made_there h s o e = s.there o ∙ or_first (is_among o h.made) (is_among o h.written) e

-- the objects are those that were changed, and no others
module _ (h : Heap) (s : IsSound h) where
  changed_found : (o : Oid) (b : Bool) → is_changed o h ≡ b → (if b then get h.rows o else None) ≡ get h.rows o
  changed_found o true e = refl
  changed_found o false e = sym (none_from (get h.rows o) (s.there o ∙ e))

  all_changed : changed_in h ≡ h.rows
  all_changed =
      same_from_get (changed_in h) h.rows (ascends_only (λ o. is_changed o h) h.rows s.ascending) s.ascending
      (λ o. get_only (λ p. is_changed p h) h.rows o ∙ changed_found o (is_changed o h) refl)

module _ (versions : List (Oid × ℕ)) (known : FlatMap) (log : List Change) (h : Heap) (marks : List ℕ) (touches : List (ℕ × Oid)) (n : Nested) (seen : framed versions known log h marks touches ≡ n) (f : IsFramed versions known log h marks) where
  pub changed_told : (rows : FlatMap) → rows ≡ h.rows → rows ≡ changed_in n.now
  changed_told rows is =
      is
      ∙ sym (all_changed h f.above.now)
      ∙ sym (only_over (λ o. is_changed o h) h.rows known f.above.now.ascending f.below.ascending (λ o e. f.above.now.there o ∙ e))
      ∙ ap (λ (m : Nested). changed_in m.now) seen

module _ (versions : List (Oid × ℕ)) (known : FlatMap) (log : List Change) (h : Heap) (marks : List ℕ) (touches : List (ℕ × Oid)) (n : Nested) (seen : framed versions known log h marks touches ≡ n) (f : IsFramed versions known log h marks)
    (rows : FlatMap) (i : ℕ) (all : rows ≡ h.rows) (le : length rows ≤ i) where
  gone_over : take i rows ≡ h.rows
  gone_over = take_all i rows le ∙ all

  pub writes_told : (writes : Answers) → writes ≡ writes_in n.versions n.now.written (take i rows) → writes ≡ writes_in n.versions n.now.written n.now.rows
  writes_told writes e =
      e
      ∙ ap (writes_in n.versions n.now.written) gone_over
      ∙ ap (λ (m : Nested). writes_in m.versions m.now.written h.rows) (sym seen)
      ∙ ap (map (λ (row : Oid × Object). (row.0, version_of versions row.0, row.1))) (sym (only_over (λ o. is_among o h.written) h.rows known f.above.now.ascending f.below.ascending (written_there h f.above.now)))
      ∙ ap (λ (m : Nested). writes_in m.versions m.now.written m.now.rows) seen

  pub creates_told : (creates : FlatMap) → creates ≡ creates_in n.now.made (take i rows) → creates ≡ creates_in n.now.made n.now.rows
  creates_told creates e =
      e
      ∙ ap (creates_in n.now.made) gone_over
      ∙ ap (λ (m : Nested). creates_in m.now.made h.rows) (sym seen)
      ∙ sym (only_over (λ o. is_among o h.made) h.rows known f.above.now.ascending f.below.ascending (made_there h f.above.now))
      ∙ ap (λ (m : Nested). creates_in m.now.made m.now.rows) seen
