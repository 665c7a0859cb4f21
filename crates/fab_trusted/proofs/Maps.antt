-- What a commit changes of the classes that are kept depends on these alone, and the map so far beside its answers.
use Rattle.std.proofs.Common.{◌≡◌, ℕ, Bool, true, false, not, List, [], ◌∷◌, ◌++◌, map, Option, Some, None, if◌then◌else◌, refl, sym, ap, ◌∙◌, true≢false}
use Rattle.std.specs.Prelude.{IsTrue, IsFalse}
use Rattle.std.specs.List.{filter}
use Rattle.std.proofs.lemmas.Bool.{false_from_ne_true}
use Rattle.std.proofs.lemmas.List.Elements.{filter-append}
use Rattle.fab_base.specs.declared.object.Oid.{Oid}
use Rattle.fab_base.specs.declared.object.Object.{Object}
use Rattle.fab_base.specs.FlatMap.{FlatMap, ascends, get, is_among, is_same, put_all}
use Rattle.fab_base.proofs.NameOrder.{one_name}
use Rattle.fab_erasure.proofs.Views.{among_seen}
use Rattle.fab_integrity.proofs.Maps.{ascends_filter, get_within, put_all_other, same_maps}
use Rattle.fab_world.specs.Serial.{outside, within}
use Rattle.fab_integrity.specs.Changed.{changed, named}

module _ (ex : ℕ → Bool) where
  abbrev inside : Oid → Bool
  inside o = ex o.class

  -- of rows of these names, those that are kept
  kept_named : (os : List Oid) (rows : FlatMap) → within ex (named os rows) ≡ named (filter inside os) (within ex rows)
  kept_named os [] = refl
  kept_named os (row ∷ rows) = by (kept_named os rows) (ex row.0.class) (is_among row.0 os) refl refl
    where
      by : within ex (named os rows) ≡ named (filter inside os) (within ex rows) → (b c : Bool) → ex row.0.class ≡ b → is_among row.0 os ≡ c
          → within ex (if c then row ∷ named os rows else named os rows) ≡ named (filter inside os) (if b then row ∷ within ex rows else within ex rows)
      by h true true e f = rw (e, among_seen inside row.0 os e ∙ f) (ap (λ l. row ∷ l) h)
      by h true false e f = rw (among_seen inside row.0 os e ∙ f) h
      by h false true e f = rw e h
      by h false false e f = h

  -- what changes depends on what is kept of it alone
  pub changed_alike : (w v m k : List Oid) (f p N : FlatMap) → filter inside w ≡ filter inside v → filter inside m ≡ filter inside k → within ex f ≡ within ex p
      → changed ex w m f N ≡ changed ex v k p N
  changed_alike w v m k f p N e g h =
      ap (λ l. put_all l N) (parts w m f) ∙ (λ i. put_all (named (e i) (h i) ++ named (g i) (h i)) N) ∙ ap (λ l. put_all l N) (sym (parts v k p))
    where
      parts : (w m : List Oid) (f : FlatMap) → within ex (named w f ++ named m f) ≡ named (filter inside w) (within ex f) ++ named (filter inside m) (within ex f)
      parts w m f =
          filter-append (λ row. ex row.0.class) (named w f) (named m f)
          ∙ ap (λ l. l ++ within ex (named m f)) (kept_named w f) ∙ ap (λ l. named (filter inside w) (within ex f) ++ l) (kept_named m f)

  -- a kept name isn't among those that aren't kept
  lacks : (rows : FlatMap) (o : Oid) → ex o.class ≡ true → IsFalse (is_among o (map (λ (r : Oid × Object). r.0) (outside ex rows)))
  lacks [] o e = refl
  lacks (row ∷ rows) o e = by (lacks rows o e) (ex row.0.class) refl
    where
      by : IsFalse (is_among o (map (λ (r : Oid × Object). r.0) (outside ex rows))) → (b : Bool) → ex row.0.class ≡ b
          → IsFalse (is_among o (map (λ (r : Oid × Object). r.0) (if not b then row ∷ outside ex rows else outside ex rows)))
      by h true f = h
      by h false f =
          let other : is_same row.0 o ≡ false =
          false_from_ne_true (is_same row.0 o) (λ i. true≢false (sym e ∙ ap (λ (p : Oid). ex p.class) (sym (one_name row.0 o i)) ∙ f)) in
          rw other h

  -- the map so far is what is kept of it beside answers of other classes
  pub kept_beside : (rows N : FlatMap) → IsTrue (ascends N) → IsTrue (ascends (put_all (outside ex rows) N))
      → ((o : Oid) (x : Object) → get N o ≡ Some x → ex o.class ≡ true) → within ex (put_all (outside ex rows) N) ≡ N
  kept_beside rows N up both own =
      same_maps (within ex (put_all (outside ex rows) N)) N (ascends_filter (λ row. ex row.0.class) (put_all (outside ex rows) N) both) up
      (λ o. get_within ex (put_all (outside ex rows) N) o ∙ by o (ex o.class) refl)
    where
      none : (o : Oid) (x : Option Object) → get N o ≡ x → ex o.class ≡ false → None ≡ x
      none o None e f = refl
      none o (Some x) e f = absurd (true≢false (sym (own o x e) ∙ f))

      by : (o : Oid) (b : Bool) → ex o.class ≡ b → (if b then get (put_all (outside ex rows) N) o else None) ≡ get N o
      by o true e = put_all_other (outside ex rows) N o (lacks rows o e)
      by o false e = none o (get N o) refl e
