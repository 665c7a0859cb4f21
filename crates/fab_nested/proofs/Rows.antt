-- Rows of names, and rows that are put one by one.
use Rattle.std.proofs.Common.{◌≡◌, ℕ, ◌+◌, ◌<◌, true, ◌||◌, List, [], ◌∷◌, ◌++◌, length, take, get_or, is_some, refl, sym, ap, ◌∙◌}
use Rattle.std.proofs.lemmas.Grind.{flat_map-append}
use Rattle.std.proofs.lemmas.List.{take_more}
use Rattle.fab_base.specs.declared.object.Oid.{Oid}
use Rattle.fab_base.specs.declared.object.Object.{Object}
use Rattle.fab_base.specs.FlatMap.{FlatMap, get, is_among, is_same, put, put_all}
use Rattle.fab_language.specs.Heaps.{Heap}
use Rattle.fab_base.proofs.Names.{same_self}
use Rattle.fab_map.proofs.Rows.{put_more}
use Rattle.fab_nested.specs.Effects.{object_at, objects_at}
use Rattle.fab_nested.specs.Logs.{IsSound}
use Rattle.fab_nested.proofs.Calling.{some_of}
use Rattle.fab_nested.proofs.Over.{found_changed}
use Rattle.fab_nested.proofs.Telling.{or_second, written_there, made_there}

-- one row more of those that are put
pub put_taken : (rows known : FlatMap) (i : ℕ) (d : Oid × Object) → i < length rows
    → put (get_or rows i d).0 (get_or rows i d).1 (put_all (take i rows) known) ≡ put_all (take (i + 1) rows) known
put_taken rows known i d h = sym (ap (λ l. put_all l known) (take_more rows i d h) ∙ put_more (take i rows) (get_or rows i d) known)

-- the objects of names in two parts
pub objects_append : (rows : FlatMap) (os ps : List Oid) → objects_at rows (os ++ ps) ≡ objects_at rows os ++ objects_at rows ps
objects_append rows os ps = flat_map-append (λ (o : Oid). object_at o (get rows o)) os ps

-- the same objects are found under each of these names
pub objects_same : (rows others : FlatMap) (os : List Oid) → ((o : Oid) → is_among o os ≡ true → get rows o ≡ get others o) → objects_at rows os ≡ objects_at others os
objects_same rows others [] same = refl
objects_same rows others (o ∷ os) same =
    λ i. object_at o (same o (ap (λ b. b || is_among o os) (same_self o)) i) ++ objects_same rows others os (λ p h. same p (or_second (is_same o p) (is_among p os) h)) i

-- objects that were changed are found the same over what is known
module _ (known : FlatMap) (h : Heap) (s : IsSound h) where
  changed_same : (o : Oid) → is_some (get h.rows o) ≡ true → get h.rows o ≡ get (put_all h.rows known) o
  changed_same o there = let x = some_of (get h.rows o) there in x.1 ∙ sym (found_changed h.rows known o x.0 s.ascending x.1)

  pub changes_same : objects_at h.rows h.written ++ objects_at h.rows h.made ≡ objects_at (put_all h.rows known) (h.written ++ h.made)
  changes_same =
      (λ i. objects_same h.rows (put_all h.rows known) h.written (λ o e. changed_same o (written_there h s o e)) i ++ objects_same h.rows (put_all h.rows known) h.made (λ o e. changed_same o (made_there h s o e)) i)
      ∙ sym (objects_append (put_all h.rows known) h.written h.made)
