-- What caches take of known parts over known answers.
use Rattle.std.proofs.Common.{◌≡◌, ℕ, suc, true, false, ◌||◌, if◌then◌else◌, List, [], ◌∷◌, ◌++◌, map, length, Option, Some, None, refl}
use Rattle.std.specs.Prelude.{nat_le, ◌==◌}
use Rattle.std.specs.List.{AllByRecursion, filter_map, cons_option}
use Rattle.fab_base.specs.declared.object.Tid.{Tid}
use Rattle.fab_base.specs.FlatMap.{is_among}
use Rattle.fab_base.proofs.Lists.{all_along, all_append, all_filter, all_map}
use Rattle.fab_tree.specs.declared.resolved.Resolved.{Resolved}
use Rattle.fab_protocol.specs.declared.parts.Parts.{Parts}
use Rattle.fab_protocol.specs.Caches.{last_distinct, at_store, cached}
use Rattle.fab_protocol.specs.Parts.{touched_names, puts_of}
use Rattle.fab_protocol.specs.Tables.{row_of}
use Rattle.fab_protocol.specs.Versions.{Row, Rows, name_of, names_of, raised}
use Rattle.fab_protocol.proofs.TableLaws.{row_of_all}
use Rattle.fab_attempts.specs.Known.{IsKnown, AreKnown, ArePartsOver}

-- what holds of whatever is made of an element holds of each that is
all_made : {A B : Type 0} (P : B → Type 0) (f : A → Option B) (xs : List A) → ((x : A) (y : B) → f x ≡ Some y → P y) → AllByRecursion P (filter_map f xs)
all_made P f [] h = tt
all_made P f (x ∷ xs) h =
    elim (f x) as (λ y. f x ≡ y → AllByRecursion P (cons_option y (filter_map f xs))) [
      | None ↦ λ e. all_made P f xs h
      | Some y ↦ λ e. (h x y e, all_made P f xs h)
    ] refl

pub puts_known : (program : Resolved) (t : Tid) (answers : Rows) (parts : Parts) → AreKnown program t answers → ArePartsOver program t answers parts
    → AreKnown program t (puts_of answers parts)
puts_known program t answers parts known over =
    let behind : AreKnown program t (map raised parts.writes) =
    all_map (IsKnown program t) raised parts.writes
    (all_along (IsKnown program t) (λ w. IsKnown program t (raised w)) (λ w h. record { shaped = h.shaped; made = h.made }) parts.writes over.writes) in
    let rows = map raised parts.writes ++ answers in
    let all : AreKnown program t rows = all_append (IsKnown program t) (map raised parts.writes) answers behind known in
    all_made (IsKnown program t) (row_of name_of rows) (touched_names parts) (λ o row e. row_of_all name_of (IsKnown program t) rows o row all e)

module _ (P : Row → Type 0) where
  last_kept : (k : ℕ) (rows : Rows) → AllByRecursion P rows → AllByRecursion P (last_distinct k rows)
  last_kept k [] h = tt
  last_kept k (row ∷ rows) h =
      let newer = last_distinct k rows in
      elim (is_among row.0 (names_of newer) || nat_le k (length newer)) as (λ b. AllByRecursion P (if b then newer else row ∷ newer)) [
        | true ↦ last_kept k rows h.1
        | false ↦ (h.0, last_kept k rows h.1)
      ]

  pub caches_kept : (k : ℕ) (puts : Rows) (s : ℕ) (caches : List Rows) → AllByRecursion P puts → AllByRecursion (AllByRecursion P) caches
      → AllByRecursion (AllByRecursion P) (cached k puts s caches)
  caches_kept k puts s [] h g = tt
  caches_kept k puts s (cache ∷ caches) h g = (
    last_kept k (cache ++ at_store s puts) (all_append P cache (at_store s puts) g.0 (all_filter P (λ row. row.0.store == s) puts h)),
    caches_kept k puts (suc s) caches h g.1,
  )
