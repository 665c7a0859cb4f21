-- What a field that is written, or an object that is taken away, does to a map, and that it can be put back.
use Rattle.std.proofs.Common.{◌≡◌, ℕ, zero, suc, ◌<◌, Bool, true, false, [], ◌∷◌, List, length, get_or, set, remove, Option, Some, None, unwrap_or, slice_get, slice_set, refl, sym, ◌∙◌, ap, inl, inr, arith}
use Rattle.std.proofs.lemmas.Bool.{false≢true}
use Rattle.fab_base.specs.declared.object.Oid.{Oid}
use Rattle.fab_base.specs.declared.object.Object.{Object}
use Rattle.fab_base.specs.declared.object.Value.{Value}
use Rattle.fab_base.specs.FlatMap.{is_before, is_same, FlatMap, get, put, ascends}
use Rattle.fab_map.specs.Changes.{field_in, with_field, with_field_of, put_some, put_field, removed}
use Rattle.fab_map.specs.Places.{IsAt, IsGap}
use Rattle.fab_base.proofs.Names.{same_self}
use Rattle.fab_base.proofs.NameOrder.{one_name, cases_name, differ, differ_back}
use Rattle.fab_map.proofs.Rows.{get_here, get_past, put_before, put_behind, put_over, leads, leads_from, ascends_leads, ascends_rest, ascends_cons, ascends-put, get-put_same, get-put_other, get_none_before, same_from_get}
use Rattle.fab_map.proofs.Found.{get_at, put_at, at_tail, first_before, get_in_gap}

-- ---- an object is taken away

removed_here : (row : Oid × Object) (rows : FlatMap) (o : Oid) → is_same row.0 o ≡ true → removed o (row ∷ rows) ≡ removed o rows
removed_here row rows o h = rw h refl

removed_past : (row : Oid × Object) (rows : FlatMap) (o : Oid) → is_same row.0 o ≡ false → removed o (row ∷ rows) ≡ row ∷ removed o rows
removed_past row rows o h = rw h refl

-- what isn't there is no row of this name
apart_first : (row : Oid × Object) (rows : FlatMap) (o : Oid) → get (row ∷ rows) o ≡ None → is_same row.0 o ≡ false
apart_first row rows o h = by_test (is_same row.0 o) refl
  where
    by_test : (b : Bool) → is_same row.0 o ≡ b → is_same row.0 o ≡ false
    by_test true e = let no : Some row.1 ≡ None = sym (get_here row rows o e) ∙ h in cc
    by_test false e = e

absent_rest : (row : Oid × Object) (rows : FlatMap) (o : Oid) → get (row ∷ rows) o ≡ None → get rows o ≡ None
absent_rest row rows o h = sym (get_past row rows o (apart_first row rows o h)) ∙ h

pub removed_absent : (rows : FlatMap) (o : Oid) → get rows o ≡ None → removed o rows ≡ rows
removed_absent [] o h = refl
removed_absent (row ∷ rows) o h = removed_past row rows o (apart_first row rows o h) ∙ ap (λ l. row ∷ l) (removed_absent rows o (absent_rest row rows o h))

pub removed_at : (rows : FlatMap) → ascends rows ≡ true → (o : Oid) (i : ℕ) → IsAt rows o i → removed o rows ≡ remove rows i
removed_at [] h o i at = absurd (omega (arith, at.in_range))
removed_at (row ∷ rows) h o zero at =
    let name : row.0 ≡ o = at.name row in
    removed_here row rows o (ap (λ n. is_same n o) name ∙ same_self o)
    ∙ removed_absent rows o (get_none_before o rows (ascends_rest row rows h) (ap (λ n. leads n rows) (sym name) ∙ ascends_leads row rows h))
removed_at (row ∷ rows) h o (suc i) at =
    removed_past row rows o (differ row.0 o (first_before row rows o i h at))
    ∙ ap (λ l. row ∷ l) (removed_at rows (ascends_rest row rows h) o i (at_tail row rows o i at))

leads-removed : (p o : Oid) (rows : FlatMap) → ascends rows ≡ true → leads p rows ≡ true → leads p (removed o rows) ≡ true
leads-removed p o [] h l = refl
leads-removed p o (row ∷ rows) h l = by_test (leads-removed p o rows (ascends_rest row rows h) (leads_from p row.0 rows l (ascends_leads row rows h))) (is_same row.0 o) refl
  where
    by_test : leads p (removed o rows) ≡ true → (b : Bool) → is_same row.0 o ≡ b → leads p (removed o (row ∷ rows)) ≡ true
    by_test rest true e = ap (leads p) (removed_here row rows o e) ∙ rest
    by_test rest false e = ap (leads p) (removed_past row rows o e) ∙ l

pub ascends-removed : (o : Oid) (rows : FlatMap) → ascends rows ≡ true → ascends (removed o rows) ≡ true
ascends-removed o [] h = refl
ascends-removed o (row ∷ rows) h = by_test (ascends-removed o rows (ascends_rest row rows h)) (is_same row.0 o) refl
  where
    by_test : ascends (removed o rows) ≡ true → (b : Bool) → is_same row.0 o ≡ b → ascends (removed o (row ∷ rows)) ≡ true
    by_test rest true e = ap ascends (removed_here row rows o e) ∙ rest
    by_test rest false e =
        ap ascends (removed_past row rows o e)
        ∙ ascends_cons row (removed o rows) (leads-removed row.0 o rows (ascends_rest row rows h) (ascends_leads row rows h)) rest

-- an object of a new name that is put and taken away again
pub removed-put : (o : Oid) (x : Object) (rows : FlatMap) → get rows o ≡ None → removed o (put o x rows) ≡ rows
removed-put o x [] h = removed_here (o, x) [] o (same_self o)
removed-put o x (row ∷ rows) h = elim (cases_name o row.0) [
  | inl before ↦ ap (removed o) (put_before o x row rows before) ∙ removed_here (o, x) (row ∷ rows) o (same_self o) ∙ removed_absent (row ∷ rows) o h
  | inr (inl same) ↦ let no : true ≡ false = sym (same_self o) ∙ ap (λ n. is_same n o) same ∙ apart_first row rows o h in cc
  | inr (inr behind) ↦ ap (removed o) (put_behind o x row rows behind) ∙ removed_past row (put o x rows) o (differ row.0 o behind) ∙ ap (λ l. row ∷ l) (removed-put o x rows (absent_rest row rows o h))
]

-- ---- a field is written

pub put_field_absent : (o : Oid) (field : ℕ) (v : Value) (rows : FlatMap) → get rows o ≡ None → put_field o field v rows ≡ rows
put_field_absent o field v rows h = rw h refl

pub put_field_there : (o : Oid) (field : ℕ) (v : Value) (x : Object) (rows : FlatMap) → get rows o ≡ Some x → put_field o field v rows ≡ put o (with_field field v x) rows
put_field_there o field v x rows h = rw h refl

pub ascends-put_field : (o : Oid) (field : ℕ) (v : Value) (rows : FlatMap) → ascends rows ≡ true → ascends (put_field o field v rows) ≡ true
ascends-put_field o field v rows h = by_row (with_field_of field v (get rows o))
  where
    by_row : (r : Option Object) → ascends (put_some o r rows) ≡ true
    by_row None = h
    by_row (Some x) = ascends-put o x rows h

-- at a place where the name stands, over the row that is read there
module _ (rows : FlatMap) (h : ascends rows ≡ true) (o : Oid) (i : ℕ) (at : IsAt rows o i) (row : Oid × Object) (read : row ≡ get_or rows i row) where
  found_row : get rows o ≡ Some row.1
  found_row = get_at rows h o i at row ∙ ap (λ r. Some r.1) (sym read)

  pub field_read : (field : ℕ) (was : List Value) (old : Option Value) → was ≡ row.1.fields → old ≡ slice_get was field → old ≡ field_in field (get rows o)
  field_read field was old e f = f ∙ ap (λ l. slice_get l field) e ∙ ap (field_in field) (sym found_row)

  pub put_field_at : (field : ℕ) (v : Value) (was fields : List Value) → was ≡ row.1.fields → fields ≡ slice_set was field v → set rows i (row.0, record { class = row.1.class; fields = fields }) ≡ put_field o field v rows
  put_field_at field v was fields e f =
      let new : fields ≡ slice_set row.1.fields field v = f ∙ ap (λ l. slice_set l field v) e in
      (λ j. set rows i ((ap (λ r. r.0) read ∙ at.name row) j, record { class = row.1.class; fields = new j }))
      ∙ sym (put_at rows h o i at (with_field field v row.1))
      ∙ sym (put_field_there o field v row.1 rows found_row)

-- what a second object of a name leaves of the first
put-put : (o : Oid) (x y : Object) (rows : FlatMap) → put o x (put o y rows) ≡ put o x rows
put-put o x y [] = put_over o x (o, y) [] refl
put-put o x y (row ∷ rows) = elim (cases_name o row.0) [
  | inl before ↦ ap (put o x) (put_before o y row rows before) ∙ put_over o x (o, y) (row ∷ rows) refl ∙ sym (put_before o x row rows before)
  | inr (inl same) ↦ ap (put o x) (put_over o y row rows (sym same)) ∙ put_over o x (o, y) rows refl ∙ sym (put_over o x row rows (sym same))
  | inr (inr behind) ↦ ap (put o x) (put_behind o y row rows behind) ∙ put_behind o x row (put o y rows) behind ∙ ap (λ l. row ∷ l) (put-put o x y rows) ∙ sym (put_behind o x row rows behind)
]

-- what is there is put again
put_own : (o : Oid) (x : Object) (rows : FlatMap) → ascends rows ≡ true → get rows o ≡ Some x → put o x rows ≡ rows
put_own o x rows h e = same_from_get (put o x rows) rows (ascends-put o x rows h) h (λ q. by_test q (is_same o q) refl)
  where
    by_test : (q : Oid) (b : Bool) → is_same o q ≡ b → get (put o x rows) q ≡ get rows q
    by_test q true s = ap (get (put o x rows)) (sym (one_name o q s)) ∙ get-put_same o x rows ∙ sym e ∙ ap (get rows) (one_name o q s)
    by_test q false s = get-put_other o q x rows s

set_back : {A : Type 0} (xs : List A) (i : ℕ) (v d : A) → slice_set (slice_set xs i v) i (unwrap_or (slice_get xs i) d) ≡ xs
set_back [] i v d = refl
set_back (x ∷ xs) zero v d = refl
set_back (x ∷ xs) (suc i) v d = ap (λ l. x ∷ l) (set_back xs i v d)

field_back : (field : ℕ) (v d : Value) (x : Object) → with_field field (unwrap_or (slice_get x.fields field) d) (with_field field v x) ≡ x
field_back field v d x = ap (λ fields. record x { fields = fields }) (set_back x.fields field v d)

-- what a field held is written again
pub put_field-back : (o : Oid) (field : ℕ) (v d : Value) (rows : FlatMap) → ascends rows ≡ true → put_field o field (unwrap_or (field_in field (get rows o)) d) (put_field o field v rows) ≡ rows
put_field-back o field v d rows h = by_row (get rows o) refl
  where
    by_row : (r : Option Object) → get rows o ≡ r → put_field o field (unwrap_or (field_in field (get rows o)) d) (put_field o field v rows) ≡ rows
    by_row None e =
        ap (put_field o field (unwrap_or (field_in field (get rows o)) d)) (put_field_absent o field v rows e)
        ∙ put_field_absent o field (unwrap_or (field_in field (get rows o)) d) rows e
    by_row (Some x) e =
        let y : Object = with_field field v x in
        let old : Value = unwrap_or (slice_get x.fields field) d in
        ap (λ (r : Option Object). put_field o field (unwrap_or (field_in field r) d) (put_field o field v rows)) e
        ∙ ap (put_field o field old) (put_field_there o field v x rows e)
        ∙ put_field_there o field old y (put o y rows) (get-put_same o y rows)
        ∙ put-put o (with_field field old y) y rows
        ∙ ap (λ z. put o z rows) (field_back field v d x)
        ∙ put_own o x rows h e
