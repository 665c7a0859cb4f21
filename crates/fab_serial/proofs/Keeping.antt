-- What is kept of a request that is done again: its changed objects, put one after the other, or those that were written and then those that were made.
use Rattle.std.proofs.Common.{◌≡◌, inl, inr, ℕ, Bool, true, false, List, ◌++◌, map, Option, Some, None, IsTrue, refl, sym, ap, ◌∙◌, subst, true≢false}
use Rattle.std.proofs.lemmas.Bool.{false_from_ne_true}
use Rattle.fab_base.specs.declared.object.Oid.{Oid}
use Rattle.fab_base.specs.declared.object.Object.{Object}
use Rattle.fab_base.specs.FlatMap.{FlatMap, ascends, get, is_among, put_all}
use Rattle.fab_language.specs.Meaning.{Meant}
use Rattle.fab_integrity.specs.Changed.{changed, named}
use Rattle.fab_integrity.proofs.Invariant.{In}
use Rattle.fab_integrity.proofs.Lists.{filter_in, flat_in, in_append, in_filter, in_flat, in_left, in_right}
use Rattle.fab_integrity.proofs.Maps.{among_in, among_row, ascends_put_all, get_in, in_among, in_get, put_all_one, put_all_other, row_among, same_maps}
use Rattle.fab_meaning.specs.declared.whole.Changes.{Changes}
use Rattle.fab_meaning.specs.Effects.{object_at, objects_at}
use Rattle.fab_meaning.specs.Ends.{AreChanges}
use Rattle.fab_world.specs.Serial.{within}

same_object : (x y : Object) → Some x ≡ Some y → x ≡ y
same_object x y e = cc

-- rows of one map, the same in two lists, come to the same where they are put
module _ (M N : FlatMap) (R Q : FlatMap) (up : IsTrue (ascends N)) (of_r : (o : Oid) (x : Object) → In (o, x) R → get M o ≡ Some x)
    (to : (o : Oid) (x : Object) → In (o, x) R → In (o, x) Q) (from : (o : Oid) (x : Object) → In (o, x) Q → In (o, x) R) where
  abbrev names : FlatMap → List Oid
  names rows = map (λ (r : Oid × Object). r.0) rows

  one : (o : Oid) (x y : Object) → In (o, x) R → In (o, y) R → y ≡ x
  one o x y i j = same_object y x (sym (of_r o y j) ∙ of_r o x i)

  got : (o : Oid) (b : Bool) → is_among o (names R) ≡ b → get (put_all R N) o ≡ get (put_all Q N) o
  got o true e =
      let f = among_row o R e in
      put_all_one R N o f.0 (λ y i. one o f.0 y f.1 i) e ∙ sym (put_all_one Q N o f.0 (λ y i. one o f.0 y f.1 (from o y i)) (row_among o f.0 Q (to o f.0 f.1)))
  got o false e =
      put_all_other R N o e
      ∙ sym (put_all_other Q N o (false_from_ne_true (is_among o (names Q)) (λ t. let f = among_row o Q t in true≢false (sym (row_among o f.0 R (from o f.0 f.1)) ∙ e))))

  pub same_put : put_all R N ≡ put_all Q N
  same_put = same_maps (put_all R N) (put_all Q N) (ascends_put_all R N up) (ascends_put_all Q N up) (λ o. got o (is_among o (names R)) refl)

module _ (ex : ℕ → Bool) (M N : FlatMap) (m_up : IsTrue (ascends M)) (n_up : IsTrue (ascends N)) (written made : List Oid) where
  abbrev inside : Oid × Object → Bool
  inside row = ex row.0.class

  one_at : (p o : Oid) (x : Object) (found : Option Object) → get M p ≡ found → In (o, x) (object_at p found) → (get M o ≡ Some x) × (o ≡ p)
  one_at p o x None e i = absurd i
  one_at p o x (Some y) e (inl same) =
      let name : o ≡ p = ap (λ (r : Oid × Object). r.0) same in
      (ap (get M) name ∙ e ∙ ap Some (sym (ap (λ (r : Oid × Object). r.1) same)), name)
  one_at p o x (Some y) e (inr none) = absurd none

  at_one : (o : Oid) (x : Object) (found : Option Object) → found ≡ Some x → In (o, x) (object_at o found)
  at_one o x None e = absurd (cc)
  at_one o x (Some y) e = inl (ap (λ (z : Object). (o, z)) (sym (same_object y x e)))

  -- those that were changed, and stand in M
  changed_in : (o : Oid) (x : Object) → In (o, x) (within ex (objects_at M (written ++ made))) → (get M o ≡ Some x) × In o (written ++ made) × (ex o.class ≡ true)
  changed_in o x i =
      let f = in_filter inside (o, x) (objects_at M (written ++ made)) i in
      let g = in_flat (λ (p : Oid). object_at p (get M p)) (o, x) (written ++ made) f.0 in
      let h = one_at g.0 o x (get M g.0) refl g.2 in
      (h.0, subst (λ (q : Oid). In q (written ++ made)) (sym h.1) g.1, f.1)

  in_changed : (o : Oid) (x : Object) → get M o ≡ Some x → In o (written ++ made) → ex o.class ≡ true → In (o, x) (within ex (objects_at M (written ++ made)))
  in_changed o x e i kept =
      filter_in inside (o, x) (objects_at M (written ++ made))
      (flat_in (λ (p : Oid). object_at p (get M p)) (o, x) o (written ++ made) i (at_one o x (get M o) e)) kept

  among : (os : List Oid) (o : Oid) (x : Object) → get M o ≡ Some x → In o os → In (o, x) (named os M)
  among os o x e i = filter_in (λ (row : Oid × Object). is_among row.0 os) (o, x) M (get_in M o x e) (in_among o os i)

  from_named : (os : List Oid) (o : Oid) (x : Object) → In (o, x) (named os M) → (get M o ≡ Some x) × In o os
  from_named os o x i = let f = in_filter (λ (row : Oid × Object). is_among row.0 os) (o, x) M i in (in_get M o x m_up f.0, among_in o os f.1)

  to : (o : Oid) (x : Object) → In (o, x) (within ex (objects_at M (written ++ made))) → In (o, x) (within ex (named written M ++ named made M))
  to o x i =
      let f = changed_in o x i in
      filter_in inside (o, x) (named written M ++ named made M)
      (elim (in_append o written made f.1) [
        | inl a ↦ in_left (o, x) (named written M) (named made M) (among written o x f.0 a)
        | inr b ↦ in_right (o, x) (named written M) (named made M) (among made o x f.0 b)
      ]) f.2

  from : (o : Oid) (x : Object) → In (o, x) (within ex (named written M ++ named made M)) → In (o, x) (within ex (objects_at M (written ++ made)))
  from o x i =
      let f = in_filter inside (o, x) (named written M ++ named made M) i in
      elim (in_append (o, x) (named written M) (named made M) f.0) [
        | inl a ↦ let g = from_named written o x a in in_changed o x g.0 (in_left o written made g.1) f.1
        | inr b ↦ let g = from_named made o x b in in_changed o x g.0 (in_right o written made g.1) f.1
      ]

  pub kept_is : put_all (within ex (objects_at M (written ++ made))) N ≡ changed ex written made M N
  kept_is = same_put M N (within ex (objects_at M (written ++ made))) (within ex (named written M ++ named made M)) n_up (λ o x i. (changed_in o x i).0) to from

-- what was found to be changed by a request, put into a map in order
pub put_is : (ex : ℕ → Bool) (found : Changes) (meant : Meant) (rows N : FlatMap) → AreChanges found meant → rows ≡ found.changed → IsTrue (ascends N)
    → put_all (within ex rows) N ≡ changed ex meant.written meant.made meant.map N
put_is ex found meant rows N are is up =
    ap (λ (l : FlatMap). put_all (within ex l) N) (is ∙ are.changed) ∙ kept_is ex meant.map N are.ascends up meant.written meant.made
