-- What a request wrote and made over few objects, put into many, is the map behind it over the many.
use Rattle.std.proofs.Common.{◌≡◌, Bool, true, false, ◌||◌, if◌then◌else◌, List, [], ◌∷◌, Option, Some, None, ℕ, refl, sym, ap, ◌∙◌}
use Rattle.fab_base.specs.declared.object.Oid.{Oid}
use Rattle.fab_base.specs.declared.object.Object.{Object}
use Rattle.fab_base.specs.declared.object.Tid.{Tid}
use Rattle.fab_base.specs.FlatMap.{FlatMap, is_same, get, put_all, ascends}
use Rattle.fab_base.proofs.NameOrder.{one_name}
use Rattle.fab_map.proofs.Rows.{leads, leads_from, ascends_leads, ascends_rest, ascends_cons, ascends-put_all, same_from_get}
use Rattle.fab_map.proofs.Made.{first_of, get-put_all, distinct_from_ascends}
use Rattle.fab_tree.specs.declared.resolved.Request.{Request}
use Rattle.fab_tree.specs.declared.resolved.Resolved.{Resolved}
use Rattle.fab_language.specs.Heaps.{is_among}
use Rattle.fab_language.specs.Meaning.{Meant, meaning}
use Rattle.fab_laws.specs.Changes.{OnlyChanges}
use Rattle.fab_laws.specs.Locality.{AgreesOn, rows_among, with_changes}
use Rattle.fab_laws.proofs.Changes.{leaves}
use Rattle.fab_laws.proofs.Locality.{over_more}

-- ---- rows under some names

leads_among : (o : Oid) (names : List Oid) (rows : FlatMap) → ascends rows ≡ true → leads o rows ≡ true → leads o (rows_among names rows) ≡ true
leads_among o names [] h l = refl
leads_among o names (row ∷ rows) h l =
    elim (is_among row.0 names) as (λ b. leads o (if b then row ∷ rows_among names rows else rows_among names rows) ≡ true) [
      | true ↦ l
      | false ↦ leads_among o names rows (ascends_rest row rows h) (leads_from o row.0 rows l (ascends_leads row rows h))
    ]

ascends_among : (names : List Oid) (rows : FlatMap) → ascends rows ≡ true → ascends (rows_among names rows) ≡ true
ascends_among names [] h = refl
ascends_among names (row ∷ rows) h =
    elim (is_among row.0 names) as (λ b. ascends (if b then row ∷ rows_among names rows else rows_among names rows) ≡ true) [
      | true ↦ ascends_cons row (rows_among names rows) (leads_among row.0 names rows (ascends_rest row rows h) (ascends_leads row rows h)) (ascends_among names rows (ascends_rest row rows h))
      | false ↦ ascends_among names rows (ascends_rest row rows h)
    ]

get_among : (names : List Oid) (rows : FlatMap) (o : Oid) → get (rows_among names rows) o ≡ (if is_among o names then get rows o else None)
get_among names [] o = elim (is_among o names) as (λ b. ◌≡◌ {A = Option Object} None (if b then None else None)) [ true ↦ refl | false ↦ refl ]
get_among names (row ∷ rows) o = by_names (get_among names rows o) (is_among row.0 names) refl (is_same row.0 o) refl
  where
    by_names : get (rows_among names rows) o ≡ (if is_among o names then get rows o else None) → (a : Bool) → is_among row.0 names ≡ a → (b : Bool) → is_same row.0 o ≡ b → get (if a then row ∷ rows_among names rows else rows_among names rows) o ≡ (if is_among o names then (if b then Some row.1 else get rows o) else None)
    by_names h true i true j = ap (λ b. if b then Some row.1 else get (rows_among names rows) o) j ∙ sym (ap (λ b. if b then Some row.1 else None) (ap (λ q. is_among q names) (sym (one_name row.0 o j)) ∙ i))
    by_names h true i false j = ap (λ b. if b then Some row.1 else get (rows_among names rows) o) j ∙ h
    by_names h false i true j =
        let none : is_among o names ≡ false = ap (λ q. is_among q names) (sym (one_name row.0 o j)) ∙ i in
        h ∙ ap (λ b. if b then get rows o else None) none ∙ sym (ap (λ b. if b then Some row.1 else None) none)
    by_names h false i false j = h

get_with : (names : List Oid) (rows m : FlatMap) (o : Oid) → ascends rows ≡ true → get (put_all (rows_among names rows) m) o ≡ first_of (if is_among o names then get rows o else None) (get m o)
get_with names rows m o h = get-put_all (rows_among names rows) m o (distinct_from_ascends (rows_among names rows) (ascends_among names rows h)) ∙ ap (λ v. first_of v (get m o)) (get_among names rows o)

-- ---- together

module _ (few many : FlatMap) (program : Resolved) (request : Request) (tid : Tid) (fuel : ℕ) (agrees : AgreesOn few many (meaning program few request tid fuel)) (few_ascend : ascends few ≡ true) (many_ascend : ascends many ≡ true) where
  abbrev over_few : Meant
  over_few = meaning program few request tid fuel

  abbrev over_many : Meant
  over_many = meaning program many request tid fuel

  changes : OnlyChanges few over_few
  changes = (leaves few program tid request fuel).changes

  ordered : ascends over_few.map ≡ true
  ordered = changes.ascending few_ascend

  row_at : (o : Oid) → get over_many.map o ≡ get (with_changes over_few many) o
  row_at o =
      (over_more few many program request tid fuel agrees).map o
      ∙ by_change (is_among o over_few.made) refl (is_among o over_few.written) refl
      ∙ sym (ap (λ v. first_of (if is_among o over_few.made then get over_few.map o else None) v) (get_with over_few.written over_few.map many o ordered))
      ∙ sym (get_with over_few.made over_few.map (put_all (rows_among over_few.written over_few.map) many) o ordered)
    where
      first : (v : Option Object) (w : Option Object) (x : Object) → v ≡ Some x → v ≡ first_of v w
      first v w x e = e ∙ sym (ap (λ z. first_of z w) e)

      by_change : (a : Bool) → is_among o over_few.made ≡ a → (b : Bool) → is_among o over_few.written ≡ b
          → (if a || b then get over_few.map o else get many o) ≡ first_of (if a then get over_few.map o else None) (first_of (if b then get over_few.map o else None) (get many o))
      by_change true i b j = let x = changes.there o (ap (λ c. c || is_among o over_few.written) i) in first (get over_few.map o) _ x.0 x.1
      by_change false i true j = let x = changes.there o (ap (λ c. c || is_among o over_few.written) i ∙ j) in first (get over_few.map o) _ x.0 x.1
      by_change false i false j = refl

  pub carried : over_many.map ≡ with_changes over_few many
  carried =
      same_from_get over_many.map (with_changes over_few many) ((leaves many program tid request fuel).changes.ascending many_ascend)
      (ascends-put_all (rows_among over_few.made over_few.map) (put_all (rows_among over_few.written over_few.map) many) (ascends-put_all (rows_among over_few.written over_few.map) many many_ascend))
      row_at
