-- Rows that are left where only some names are kept.
use Rattle.std.proofs.Common.{◌≡◌, [], ◌∷◌, Some, None, Bool, true, false, cond, if◌then◌else◌, refl, sym, ap, ◌∙◌, true≢false}
use Rattle.std.specs.List.{filter}
use Rattle.fab_base.specs.declared.object.Oid.{Oid}
use Rattle.fab_base.specs.declared.object.Object.{Object}
use Rattle.fab_base.specs.FlatMap.{FlatMap, get, is_same, ascends}
use Rattle.fab_base.proofs.NameOrder.{one_name}
use Rattle.fab_map.proofs.Rows.{leads, ascends_leads, ascends_rest, ascends_cons, leads_from}

module _ (shown : Oid → Bool) where
  abbrev rows_of : FlatMap → FlatMap
  rows_of rows = filter (λ (row : Oid × Object). shown row.0) rows

  pub get_shown : (o : Oid) (rows : FlatMap) → shown o ≡ true → get (rows_of rows) o ≡ get rows o
  get_shown o [] h = refl
  get_shown o (row ∷ rows) h =
      elim (shown row.0) as (λ b. shown row.0 ≡ b → get (cond b (row ∷ rows_of rows) (rows_of rows)) o ≡ (if is_same row.0 o then Some row.1 else get rows o)) [
        | true ↦ λ e. ap (λ g. if is_same row.0 o then Some row.1 else g) (get_shown o rows h)
        | false ↦ λ e. get_shown o rows h ∙ none e (is_same row.0 o) refl
      ] refl
    where
      none : shown row.0 ≡ false → (c : Bool) → is_same row.0 o ≡ c → get rows o ≡ (if c then Some row.1 else get rows o)
      none e true i = absurd (true≢false (sym h ∙ ap shown (sym (one_name row.0 o i)) ∙ e))
      none e false i = refl

  pub get_unshown : (o : Oid) (rows : FlatMap) → shown o ≡ false → get (rows_of rows) o ≡ None
  get_unshown o [] h = refl
  get_unshown o (row ∷ rows) h =
      elim (shown row.0) as (λ b. shown row.0 ≡ b → get (cond b (row ∷ rows_of rows) (rows_of rows)) o ≡ None) [
        | true ↦ λ e. none e (get_unshown o rows h) (is_same row.0 o) refl
        | false ↦ λ e. get_unshown o rows h
      ] refl
    where
      none : shown row.0 ≡ true → get (rows_of rows) o ≡ None → (c : Bool) → is_same row.0 o ≡ c → (if c then Some row.1 else get (rows_of rows) o) ≡ None
      none e g true i = absurd (true≢false (sym e ∙ ap shown (one_name row.0 o i) ∙ h))
      none e g false i = g

  leads_shown : (o : Oid) (rows : FlatMap) → ascends rows ≡ true → leads o rows ≡ true → leads o (rows_of rows) ≡ true
  leads_shown o [] a h = refl
  leads_shown o (row ∷ rows) a h = elim (shown row.0) as (λ b. leads o (cond b (row ∷ rows_of rows) (rows_of rows)) ≡ true) [
    | true ↦ h
    | false ↦ leads_shown o rows (ascends_rest row rows a) (leads_from o row.0 rows h (ascends_leads row rows a))
  ]

  pub shown_ascends : (rows : FlatMap) → ascends rows ≡ true → ascends (rows_of rows) ≡ true
  shown_ascends [] a = refl
  shown_ascends (row ∷ rows) a = elim (shown row.0) as (λ b. ascends (cond b (row ∷ rows_of rows) (rows_of rows)) ≡ true) [
    | true ↦ ascends_cons row (rows_of rows) (leads_shown row.0 rows (ascends_rest row rows a) (ascends_leads row rows a)) (shown_ascends rows (ascends_rest row rows a))
    | false ↦ shown_ascends rows (ascends_rest row rows a)
  ]
