-- Where frames begin.
use Rattle.std.proofs.Common.{◌≡◌, ℕ, true, false, ◌||◌, if◌then◌else◌, List, [], ◌∷◌, map, Some, is_some, refl, sym, ap, subst, ◌∙◌}
use Rattle.std.specs.List.{IsDistinct}
use Rattle.std.specs.Map.{keys_of}
use Rattle.std.proofs.lemmas.Bool.{false≢true}
use Rattle.fab_base.specs.declared.object.Oid.{Oid}
use Rattle.fab_base.specs.declared.object.Object.{Object}
use Rattle.fab_base.specs.FlatMap.{FlatMap, is_same, is_among, get, map_of}
use Rattle.fab_language.specs.Heaps.{Heap}
use Rattle.fab_language.specs.Meaning.{unchanged}
use Rattle.fab_map.proofs.Made.{get-map_of}
use Rattle.fab_map.proofs.Rows.{ascends-put_all}
use Rattle.fab_nested.specs.declared.log.Change.{Change}
use Rattle.fab_nested.specs.Nested.{Answers, names_of, objects_of, versions_of}
use Rattle.fab_nested.specs.Overlay.{IsKnown, IsFramed}
use Rattle.fab_nested.proofs.Naming.{keys_kept}
use Rattle.fab_nested.proofs.Stepping.{sound_none}

-- each name that was answered has an object
answered_has : (answers : Answers) (o : Oid) → is_among o (map (λ (v : Oid × ℕ). v.0) (versions_of answers)) ≡ true → is_some (get (objects_of answers) o) ≡ true
answered_has [] o h = absurd (false≢true h)
answered_has (a ∷ answers) o h =
    elim (is_same a.0 o) as (λ b. (b || is_among o (map (λ (v : Oid × ℕ). v.0) (versions_of answers))) ≡ true → is_some (if b then Some a.2 else get (objects_of answers) o) ≡ true) [
      | true ↦ λ e. refl
      | false ↦ answered_has answers o
    ] h

pub distinct_rows : (answers : Answers) → IsDistinct is_same (names_of answers) → IsDistinct is_same (keys_of (objects_of answers))
distinct_rows answers apart = subst (IsDistinct is_same) (sym (keys_kept (λ (a : Oid × ℕ × Object). a.2) answers)) apart

pub answers_known : (answers : Answers) → IsDistinct is_same (names_of answers) → IsKnown (versions_of answers) (map_of (objects_of answers))
answers_known answers apart = record {
  ascending = ascends-put_all (objects_of answers) [] refl;
  versioned = λ o h. ap is_some (get-map_of (objects_of answers) o (distinct_rows answers apart)) ∙ answered_has answers o h;
}

pub answers_known_as : (answers : Answers) → IsDistinct is_same (names_of answers) → (versions : List (Oid × ℕ)) (known : FlatMap) → versions ≡ versions_of answers → known ≡ map_of (objects_of answers) → IsKnown versions known
answers_known_as answers apart versions known e f = rw (e, f) (answers_known answers apart)

-- nothing is changed yet
module _ (versions : List (Oid × ℕ)) (known : FlatMap) (log : List Change) (h : Heap) (marks : List ℕ) (no_log : log ≡ []) (none : h ≡ unchanged []) (no_marks : marks ≡ []) where
  pub framed_start : IsKnown versions known → IsFramed versions known log h marks
  framed_start k = rw (no_log, none, no_marks) (record { below = k; above = record { in_order = tt; now = sound_none; saved = tt } })
