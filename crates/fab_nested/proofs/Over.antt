-- Objects that were changed, over those that are known.
use Rattle.std.proofs.Common.{◌≡◌, Bool, true, false, if◌then◌else◌, [], ◌∷◌, ◌++◌, Option, Some, None, is_some, refl, sym, ap, ◌∙◌}
use Rattle.std.specs.Prelude.{filter, option_map}
use Rattle.std.proofs.lemmas.Bool.{false≢true}
use Rattle.fab_base.specs.declared.object.Oid.{Oid}
use Rattle.fab_base.specs.declared.object.Object.{Object}
use Rattle.fab_base.specs.FlatMap.{FlatMap, is_same, get, put, put_all, ascends}
use Rattle.fab_base.proofs.NameOrder.{one_name}
use Rattle.fab_language.specs.Heaps.{Heap, is_changed, is_spent, with_row, newly_written, replaced, created}
use Rattle.fab_map.proofs.Made.{distinct_from_ascends, first_of, get-put_all}
use Rattle.fab_map.proofs.Rows.{get_here, get_past, leads, leads_from, ascends_leads, ascends_rest, ascends_cons, ascends-put, ascends-put_all, get-put_other, get-put_same, same_from_get}
use Rattle.fab_nested.specs.Overlay.{over}

-- ---- what is found

-- what is found is the changed object, or else the one that is known
pub found_over : (changed known : FlatMap) (o : Oid) → ascends changed ≡ true → get (put_all changed known) o ≡ first_of (get changed o) (get known o)
found_over changed known o h = get-put_all changed known o (distinct_from_ascends changed h)

-- a changed object is found
pub found_changed : (changed known : FlatMap) (o : Oid) (x : Object) → ascends changed ≡ true → get changed o ≡ Some x → get (put_all changed known) o ≡ Some x
found_changed changed known o x h e = found_over changed known o h ∙ ap (λ v. first_of v (get known o)) e

-- where none of a name was changed, the known one is found
pub found_known : (changed known : FlatMap) (o : Oid) → ascends changed ≡ true → get changed o ≡ None → get (put_all changed known) o ≡ get known o
found_known changed known o h e = found_over changed known o h ∙ ap (λ v. first_of v (get known o)) e

first_absent : (v w : Option Object) → first_of v w ≡ None → (v ≡ None) × (w ≡ None)
first_absent None w e = (refl, e)
first_absent (Some x) w e = let no : Some x ≡ None = e in cc

-- what isn't found was not changed, and isn't known
pub absent_over : (changed known : FlatMap) (o : Oid) → ascends changed ≡ true → get (put_all changed known) o ≡ None → (get changed o ≡ None) × (get known o ≡ None)
absent_over changed known o h e = first_absent (get changed o) (get known o) (sym (found_over changed known o h) ∙ e)

-- ---- an object more

-- one change more
pub put_over : (o : Oid) (x : Object) (changed known : FlatMap) → ascends changed ≡ true → ascends known ≡ true
    → put_all (put o x changed) known ≡ put o x (put_all changed known)
put_over o x changed known h k =
    same_from_get (put_all (put o x changed) known) (put o x (put_all changed known)) (ascends-put_all (put o x changed) known k)
    (ascends-put o x (put_all changed known) (ascends-put_all changed known k)) (λ p. found_over (put o x changed) known p (ascends-put o x changed h) ∙ by p (is_same o p) refl)
  where
    by : (p : Oid) (b : Bool) → is_same o p ≡ b → first_of (get (put o x changed) p) (get known p) ≡ get (put o x (put_all changed known)) p
    by p true e =
        let name : o ≡ p = one_name o p e in
        ap (λ v. first_of v (get known p)) (ap (get (put o x changed)) (sym name) ∙ get-put_same o x changed)
        ∙ sym (ap (get (put o x (put_all changed known))) (sym name) ∙ get-put_same o x (put_all changed known))
    by p false e =
        ap (λ v. first_of v (get known p)) (get-put_other o p x changed e)
        ∙ sym (get-put_other o p x (put_all changed known) e ∙ found_over changed known p h)

-- one known object more, where none of its name was changed
pub put_under : (o : Oid) (x : Object) (changed known : FlatMap) → ascends changed ≡ true → ascends known ≡ true → get changed o ≡ None
    → put_all changed (put o x known) ≡ put o x (put_all changed known)
put_under o x changed known h k absent =
    same_from_get (put_all changed (put o x known)) (put o x (put_all changed known)) (ascends-put_all changed (put o x known) (ascends-put o x known k))
    (ascends-put o x (put_all changed known) (ascends-put_all changed known k)) (λ p. found_over changed (put o x known) p h ∙ by p (is_same o p) refl)
  where
    by : (p : Oid) (b : Bool) → is_same o p ≡ b → first_of (get changed p) (get (put o x known) p) ≡ get (put o x (put_all changed known)) p
    by p true e =
        let name : o ≡ p = one_name o p e in
        ap (λ v. first_of v (get (put o x known) p)) (ap (get changed) (sym name) ∙ absent)
        ∙ ap (get (put o x known)) (sym name)
        ∙ get-put_same o x known
        ∙ sym (ap (get (put o x (put_all changed known))) (sym name) ∙ get-put_same o x (put_all changed known))
    by p false e =
        ap (first_of (get changed p)) (get-put_other o p x known e)
        ∙ sym (get-put_other o p x (put_all changed known) e ∙ found_over changed known p h)

-- ---- heaps over what is known

module _ (known : FlatMap) (o : Oid) (x : Object) (h : Heap) (below : ascends known ≡ true) (above : ascends h.rows ≡ true) where
  row_over : put_all (put o x h.rows) known ≡ put o x (put_all h.rows known)
  row_over = put_over o x h.rows known above below

  newly_over : option_map (over known) (newly_written o x h) ≡ newly_written o x (over known h)
  newly_over =
      elim (is_spent h) as (λ b. option_map (over known) (if b then None else Some (record (with_row o x h) { written = h.written ++ o ∷ [] })) ≡ (if b then None else Some (record (with_row o x (over known h)) { written = h.written ++ o ∷ [] }))) [
        | true ↦ refl
        | false ↦ λ i. Some (record h { rows = row_over i; written = h.written ++ o ∷ [] })
      ]

  pub replaced_over : option_map (over known) (replaced o x h) ≡ replaced o x (over known h)
  replaced_over =
      elim (is_changed o h) as (λ b. option_map (over known) (if b then Some (with_row o x h) else newly_written o x h) ≡ (if b then Some (with_row o x (over known h)) else newly_written o x (over known h))) [
        | true ↦ λ i. Some (record h { rows = row_over i })
        | false ↦ newly_over
      ]

  pub created_over : option_map (over known) (created o x h) ≡ created o x (over known h)
  created_over =
      elim (is_spent h) as (λ b. option_map (over known) (if b then None else Some (record (with_row o x h) { made = h.made ++ o ∷ [] })) ≡ (if b then None else Some (record (with_row o x (over known h)) { made = h.made ++ o ∷ [] }))) [
        | true ↦ refl
        | false ↦ λ i. Some (record h { rows = row_over i; made = h.made ++ o ∷ [] })
      ]

-- ---- rows whose names pass a test

module _ (t : Oid → Bool) where
  abbrev only : FlatMap → FlatMap
  only rows = filter (λ row. t row.0) rows

  only_here : (row : Oid × Object) (rows : FlatMap) → t row.0 ≡ true → only (row ∷ rows) ≡ row ∷ only rows
  only_here row rows h = rw h refl

  only_past : (row : Oid × Object) (rows : FlatMap) → t row.0 ≡ false → only (row ∷ rows) ≡ only rows
  only_past row rows h = rw h refl

  pub get_only : (rows : FlatMap) (o : Oid) → get (only rows) o ≡ (if t o then get rows o else None)
  get_only [] o = elim (t o) as (λ b. ◌≡◌ {A = Option Object} None (if b then None else None)) [ true ↦ refl | false ↦ refl ]
  get_only (row ∷ rows) o = by (get_only rows o) (t row.0) refl (is_same row.0 o) refl
    where
      by : get (only rows) o ≡ (if t o then get rows o else None) → (a : Bool) → t row.0 ≡ a → (b : Bool) → is_same row.0 o ≡ b → get (only (row ∷ rows)) o ≡ (if t o then get (row ∷ rows) o else None)
      by rest true a true b =
          let passes : t o ≡ true = ap t (sym (one_name row.0 o b)) ∙ a in
          ap (λ l. get l o) (only_here row rows a) ∙ get_here row (only rows) o b
          ∙ sym (ap (λ (c : Bool). if c then get (row ∷ rows) o else None) passes ∙ get_here row rows o b)
      by rest true a false b =
          ap (λ l. get l o) (only_here row rows a) ∙ get_past row (only rows) o b ∙ rest
          ∙ ap (λ (v : Option Object). if t o then v else None) (sym (get_past row rows o b))
      by rest false a true b =
          let fails : t o ≡ false = ap t (sym (one_name row.0 o b)) ∙ a in
          ap (λ l. get l o) (only_past row rows a) ∙ rest
          ∙ ap (λ (c : Bool). if c then get rows o else None) fails
          ∙ sym (ap (λ (c : Bool). if c then get (row ∷ rows) o else None) fails)
      by rest false a false b =
          ap (λ l. get l o) (only_past row rows a) ∙ rest
          ∙ ap (λ (v : Option Object). if t o then v else None) (sym (get_past row rows o b))

  leads_only : (p : Oid) (rows : FlatMap) → ascends rows ≡ true → leads p rows ≡ true → leads p (only rows) ≡ true
  leads_only p [] h l = refl
  leads_only p (row ∷ rows) h l = by (leads_only p rows (ascends_rest row rows h) (leads_from p row.0 rows l (ascends_leads row rows h))) (t row.0) refl
    where
      by : leads p (only rows) ≡ true → (a : Bool) → t row.0 ≡ a → leads p (only (row ∷ rows)) ≡ true
      by rest true a = ap (leads p) (only_here row rows a) ∙ l
      by rest false a = ap (leads p) (only_past row rows a) ∙ rest

  pub ascends_only : (rows : FlatMap) → ascends rows ≡ true → ascends (only rows) ≡ true
  ascends_only [] h = refl
  ascends_only (row ∷ rows) h = by (ascends_only rows (ascends_rest row rows h)) (t row.0) refl
    where
      by : ascends (only rows) ≡ true → (a : Bool) → t row.0 ≡ a → ascends (only (row ∷ rows)) ≡ true
      by rest true a =
          ap ascends (only_here row rows a)
          ∙ ascends_cons row (only rows) (leads_only row.0 rows (ascends_rest row rows h) (ascends_leads row rows h)) rest
      by rest false a = ap ascends (only_past row rows a) ∙ rest

  first_there : (v w : Option Object) → is_some v ≡ true → first_of v w ≡ v
  first_there None w e = absurd (false≢true e)
  first_there (Some x) w e = refl

  -- where each object whose name passes was changed, what is known adds none
  pub only_over : (changed known : FlatMap) → ascends changed ≡ true → ascends known ≡ true → ((o : Oid) → t o ≡ true → is_some (get changed o) ≡ true) → only (put_all changed known) ≡ only changed
  only_over changed known h k there =
      same_from_get (only (put_all changed known)) (only changed) (ascends_only (put_all changed known) (ascends-put_all changed known k)) (ascends_only changed h)
      (λ o. get_only (put_all changed known) o ∙ by o (t o) refl ∙ sym (get_only changed o))
    where
      by : (o : Oid) (b : Bool) → t o ≡ b → (if b then get (put_all changed known) o else None) ≡ (if b then get changed o else None)
      by o true e = found_over changed known o h ∙ first_there (get changed o) (get known o) (there o e)
      by o false e = refl
