-- One change of a heap: what it comes to, that it can be undone, and that a sound heap stays sound.
use Rattle.std.proofs.Common.{◌≡◌, ℕ, ◌+◌, ◌≤◌, Bool, true, false, ◌||◌, List, [], ◌∷◌, ◌++◌, length, Option, Some, None, is_some, if◌then◌else◌, unwrap_or, refl, sym, ap, subst, ◌∙◌, arith}
use Rattle.std.proofs.lemmas.List.{length_push}
use Rattle.std.proofs.lemmas.Option.{none-some, same_Some}
use Rattle.std.proofs.lemmas.Bool.Decides.{nat_tests}
use Rattle.fab_base.specs.declared.object.Oid.{Oid}
use Rattle.fab_base.specs.declared.object.Object.{Object}
use Rattle.fab_base.specs.declared.object.Value.{Value}
use Rattle.fab_base.specs.FlatMap.{FlatMap, is_same, get, put, ascends}
use Rattle.fab_base.proofs.NameOrder.{one_name}
use Rattle.fab_language.specs.Heaps.{Heap, is_among, is_changed, is_spent, changed, with_row, replaced, created}
use Rattle.fab_language.specs.Meaning.{with_field, unchanged}
use Rattle.fab_map.specs.Changes.{field_in, put_field, removed}
use Rattle.fab_map.proofs.Rows.{ascends-put, get-put_same, get-put_other, same_from_get}
use Rattle.fab_map.proofs.Changing.{put_field_there, put_field-back, removed-put}
use Rattle.fab_nested.specs.declared.log.Change.TheVariants.{Wrote, Joined}
use Rattle.fab_nested.specs.declared.log.Change.{Change}
use Rattle.fab_nested.specs.Logs.{Steps, before, but_last, making, put_again, IsSound}
use Rattle.fab_nested.proofs.Naming.{among_push, but_last-push}

-- ---- an object is written
replaced_changed : (o : Oid) (h : Heap) (y : Object) → is_changed o h ≡ true → replaced o y h ≡ Some (with_row o y h)
replaced_changed o h y e = rw e refl

replaced_first : (o : Oid) (h : Heap) (y : Object) → is_changed o h ≡ false → is_spent h ≡ false → replaced o y h ≡ Some (record (with_row o y h) { written = h.written ++ o ∷ [] })
replaced_first o h y e s = rw (e, s) refl

-- once more
module _ (o : Oid) (field : ℕ) (v : Value) (x : Object) (h : Heap) where
  pub wrote : (d : Value) (rows : FlatMap) (old : Value) → is_changed o h ≡ true → ascends h.rows ≡ true → get h.rows o ≡ Some x → rows ≡ put_field o field v h.rows → old ≡ unwrap_or (field_in field (get h.rows o)) d → Steps (replaced o (with_field field v x) h) h (record h { rows = rows }) (Some (Wrote o field old))
  wrote d rows old c asc there e f =
      let new : rows ≡ put o (with_field field v x) h.rows = e ∙ put_field_there o field v x h.rows there in
      let back : put_field o field old rows ≡ h.rows = (λ i. put_field o field (f i) (e i)) ∙ put_field-back o field v d h.rows asc in (
        replaced_changed o h (with_field field v x) c ∙ (λ i. Some (record h { rows = sym new i })),
        λ i. record h { rows = back i },
      )

-- for the first time
module _ (o : Oid) (x : Object) (h : Heap) where
  pub joined : (rows : FlatMap) (names : List Oid) → is_changed o h ≡ false → is_spent h ≡ false → get h.rows o ≡ None → rows ≡ put o x h.rows → names ≡ h.written ++ o ∷ [] → Steps (replaced o x h) h (record h { rows = rows; written = names }) (Some (Joined o))
  joined rows names c s absent e f = (
    replaced_first o h x c s ∙ (λ i. Some (record h { rows = sym e i; written = sym f i })),
    λ i. record h { rows = (ap (removed o) e ∙ removed-put o x h.rows absent) i; written = (ap but_last f ∙ but_last-push h.written o) i },
  )

-- ---- an object is made

-- an object that was there is put again in the place of another
put_again-put : (o : Oid) (x y : Object) (rows : FlatMap) → ascends rows ≡ true → get rows o ≡ Some y → put_again o y (put o x rows) ≡ rows
put_again-put o x y rows asc there =
    let some : is_some (get (put o x rows) o) ≡ true = ap is_some (get-put_same o x rows) in
    ap (λ b. if b then put o y (put o x rows) else put o x rows) some
    ∙ same_from_get (put o y (put o x rows)) rows (ascends-put o y (put o x rows) (ascends-put o x rows asc)) asc (λ p. by_test p (is_same o p) refl)
  where
    by_test : (p : Oid) (b : Bool) → is_same o p ≡ b → get (put o y (put o x rows)) p ≡ get rows p
    by_test p true e = let name : o ≡ p = one_name o p e in ap (get (put o y (put o x rows))) (sym name) ∙ get-put_same o y (put o x rows) ∙ sym there ∙ ap (get rows) name
    by_test p false e = get-put_other o p y (put o x rows) e ∙ get-put_other o p x rows e

module _ (o : Oid) (x : Object) (h : Heap) (asc : ascends h.rows ≡ true) where
  back : (r : Option Object) → get h.rows o ≡ r → (rows : FlatMap) (names : List Oid) → rows ≡ put o x h.rows → names ≡ h.made ++ o ∷ []
      → before (making o r) (record h { rows = rows; made = names }) ≡ h
  back None is rows names e f = λ i. record h { rows = (ap (removed o) e ∙ removed-put o x h.rows is) i; made = (ap but_last f ∙ but_last-push h.made o) i }
  back (Some y) is rows names e f = λ i. record h { rows = (ap (put_again o y) e ∙ put_again-put o x y h.rows asc is) i; made = (ap but_last f ∙ but_last-push h.made o) i }

  pub made : (rows : FlatMap) (names : List Oid) (c : Change) → is_spent h ≡ false → c ≡ making o (get h.rows o) → rows ≡ put o x h.rows → names ≡ h.made ++ o ∷ []
      → Steps (created o x h) h (record h { rows = rows; made = names }) (Some c)
  made rows names c s is e f = (
    rw s (λ i. Some (record h { rows = sym e i; made = sym f i })),
    ap (λ d. before d (record h { rows = rows; made = names })) is ∙ back (get h.rows o) refl rows names e f,
  )

-- ---- a sound heap stays sound

or_true : (a : Bool) → (a || true) ≡ true
or_true true = refl
or_true false = refl

or_false : (a : Bool) → (a || false) ≡ a
or_false true = refl
or_false false = refl

or_last : (a b c : Bool) → ((a || b) || c) ≡ (a || (b || c))
or_last true b c = refl
or_last false b c = refl

or_swap : (a b c : Bool) → ((a || b) || c) ≡ ((a || c) || b)
or_swap true b c = refl
or_swap false true true = refl
or_swap false true false = refl
or_swap false false true = refl
or_swap false false false = refl

-- what is there with an object more
pub there_more : (o p : Oid) (x : Object) (rows : FlatMap) → is_some (get (put o x rows) p) ≡ (is_some (get rows p) || is_same o p)
there_more o p x rows = by_test (is_same o p) refl
  where
    by_test : (b : Bool) → is_same o p ≡ b → is_some (get (put o x rows) p) ≡ (is_some (get rows p) || b)
    by_test true e = ap (λ q. is_some (get (put o x rows) q)) (sym (one_name o p e)) ∙ ap is_some (get-put_same o x rows) ∙ sym (or_true (is_some (get rows p)))
    by_test false e = ap is_some (get-put_other o p x rows e) ∙ sym (or_false (is_some (get rows p)))

one_more : (h : Heap) (n m : ℕ) → is_spent h ≡ false → n + m ≡ changed h + 1 → n + m ≤ 256
one_more h n m s e = grind (arith, nat_tests)

pub sound_none : IsSound (unchanged [])
sound_none = record {
  ascending = refl;
  there = λ o. refl;
  few = omega arith;
}

module _ (o : Oid) (x : Object) (h new : Heap) (s : IsSound h) where
  there_then : (p : Oid) → is_some (get (put o x h.rows) p) ≡ ((is_among p h.made || is_among p h.written) || is_same o p)
  there_then p = there_more o p x h.rows ∙ ap (λ b. b || is_same o p) (s.there p)

  sound_more : is_spent h ≡ false → IsSound (record (with_row o x h) { made = h.made ++ o ∷ [] })
  sound_more t = record {
    ascending = ascends-put o x h.rows s.ascending;
    there = λ p. there_then p ∙ or_swap (is_among p h.made) (is_among p h.written) (is_same o p) ∙ ap (λ b. b || is_among p h.written) (sym (among_push p o h.made));
    few = one_more h (length h.written) (length (h.made ++ o ∷ [])) t (omega (arith, length_push h.made o));
  }

  pub sound_made : created o x h ≡ Some new → IsSound new
  sound_made e = by_test (is_spent h) refl
    where
      by_test : (b : Bool) → is_spent h ≡ b → IsSound new
      by_test true t = let none : created o x h ≡ None = rw t refl in absurd (none-some new (sym none ∙ e))
      by_test false t = let some : created o x h ≡ Some (record (with_row o x h) { made = h.made ++ o ∷ [] }) = rw t refl in subst IsSound (same_Some _ _ (sym some ∙ e)) (sound_more t)

  sound_first : is_spent h ≡ false → IsSound (record (with_row o x h) { written = h.written ++ o ∷ [] })
  sound_first t = record {
    ascending = ascends-put o x h.rows s.ascending;
    there = λ p. there_then p ∙ or_last (is_among p h.made) (is_among p h.written) (is_same o p) ∙ ap (λ b. is_among p h.made || b) (sym (among_push p o h.written));
    few = one_more h (length (h.written ++ o ∷ [])) (length h.made) t (omega (arith, length_push h.written o));
  }

  sound_again : is_changed o h ≡ true → IsSound (with_row o x h)
  sound_again c = record {
    ascending = ascends-put o x h.rows s.ascending;
    there = λ p. by_test p (is_same o p) refl;
    few = s.few;
  }
    where
      by_test : (p : Oid) (b : Bool) → is_same o p ≡ b → is_some (get (put o x h.rows) p) ≡ is_changed p h
      by_test p true e = let name : o ≡ p = one_name o p e in ap (λ q. is_some (get (put o x h.rows) q)) (sym name) ∙ ap is_some (get-put_same o x h.rows) ∙ sym c ∙ ap (λ q. is_changed q h) name
      by_test p false e = ap is_some (get-put_other o p x h.rows e) ∙ s.there p

  pub sound_written : replaced o x h ≡ Some new → IsSound new
  sound_written e = by_tests (is_changed o h) refl (is_spent h) refl
    where
      by_tests : (b : Bool) → is_changed o h ≡ b → (t : Bool) → is_spent h ≡ t → IsSound new
      by_tests true c t q = subst IsSound (same_Some _ _ (sym (replaced_changed o h x c) ∙ e)) (sound_again c)
      by_tests false c true q = let none : replaced o x h ≡ None = rw (c, q) refl in absurd (none-some new (sym none ∙ e))
      by_tests false c false q = subst IsSound (same_Some _ _ (sym (replaced_first o h x c q) ∙ e)) (sound_first q)
