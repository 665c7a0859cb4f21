-- Roots of classes that aren't shown may be blank: of those that are shown nothing changes.
use Rattle.std.proofs.Common.{◌≡◌, ℕ, Bool, true, false, cond, List, [], ◌∷◌, map, refl, sym, ap, ◌∙◌}
use Rattle.std.specs.List.{filter}
use Rattle.fab_base.specs.declared.object.Object.{Object}
use Rattle.fab_base.specs.declared.object.Oid.{Oid}
use Rattle.fab_base.specs.FlatMap.{FlatMap, is_before, map_of, put, put_all}
use Rattle.fab_tree.specs.declared.resolved.Resolved.{Resolved}
use Rattle.fab_tree.specs.declared.resolved.Root.{Root}
use Rattle.fab_language.specs.Evaluation.{map_at_start, rows_of}
use Rattle.fab_release.specs.Bundles.{public_part, public_root}

module _ (shows : ℕ → Bool) where
  -- an object under a name of a class that isn't shown has no values
  abbrev blank : Oid → Object → Object
  blank o x = record x { fields = cond (shows o.class) x.fields [] }

  abbrev blank_row : Oid × Object → Oid × Object
  blank_row row = (row.0, blank row.0 row.1)

  map_choice : {A B : Type 0} (f : A → B) (b : Bool) (xs ys : List A) → map f (cond b xs ys) ≡ cond b (map f xs) (map f ys)
  map_choice f true xs ys = refl
  map_choice f false xs ys = refl

  blank_put : (o : Oid) (x : Object) (m : FlatMap) → put o (blank o x) (map blank_row m) ≡ map blank_row (put o x m)
  blank_put o x [] = refl
  blank_put o x (row ∷ rows) =
      ap (λ others. cond (is_before o row.0) ((o, blank o x) ∷ map blank_row (row ∷ rows)) (cond (is_before row.0 o) (blank_row row ∷ others) ((o, blank o x) ∷ map blank_row rows)))
      (blank_put o x rows)
      ∙ sym (map_choice blank_row (is_before o row.0) ((o, x) ∷ row ∷ rows) (cond (is_before row.0 o) (row ∷ put o x rows) ((o, x) ∷ rows))
      ∙ ap (cond (is_before o row.0) ((o, blank o x) ∷ map blank_row (row ∷ rows))) (map_choice blank_row (is_before row.0 o) (row ∷ put o x rows) ((o, x) ∷ rows)))

  blank_all : (rows : List (Oid × Object)) (m : FlatMap) → put_all (map blank_row rows) (map blank_row m) ≡ map blank_row (put_all rows m)
  blank_all [] m = refl
  blank_all (row ∷ rows) m = ap (put_all (map blank_row rows)) (blank_put row.0 row.1 m) ∙ blank_all rows (put row.0 row.1 m)

  -- of what is shown nothing is blank
  shown_same : (rows : FlatMap) → filter (λ row. shows row.0.class) (map blank_row rows) ≡ filter (λ row. shows row.0.class) rows
  shown_same [] = refl
  shown_same (row ∷ rows) = by (shows row.0.class) refl (shown_same rows)
    where
      by : (b : Bool) → shows row.0.class ≡ b → filter (λ y. shows y.0.class) (map blank_row rows) ≡ filter (λ y. shows y.0.class) rows
          → cond (shows row.0.class) ((row.0, record row.1 { fields = cond (shows row.0.class) row.1.fields [] }) ∷ filter (λ y. shows y.0.class) (map blank_row rows)) (filter (λ y. shows y.0.class) (map blank_row rows))
          ≡ cond (shows row.0.class) (row ∷ filter (λ y. shows y.0.class) rows) (filter (λ y. shows y.0.class) rows)
      by true e later = rw e (ap (λ others. row ∷ others) later)
      by false e later = rw e later

  module _ (sees : ℕ → Bool) where
    blank_rows : (roots : List Root) → rows_of (map (public_root sees shows) roots) ≡ map blank_row (rows_of roots)
    blank_rows [] = refl
    blank_rows (x ∷ xs) = ap (λ others. blank_row (x.oid, record { class = x.oid.class; fields = x.values }) ∷ others) (blank_rows xs)

    pub roots_shown : (r : Resolved) → filter (λ row. shows row.0.class) (map_at_start (public_part sees shows r)) ≡ filter (λ row. shows row.0.class) (map_at_start r)
    roots_shown r =
        ap (λ rows. filter (λ row. shows row.0.class) (map_of rows)) (blank_rows r.roots)
        ∙ ap (filter (λ row. shows row.0.class)) (blank_all (rows_of r.roots) [])
        ∙ shown_same (map_at_start r)
