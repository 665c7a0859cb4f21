-- Of each name a cache keeps the last put: so behind puts an object of another name is one that was cached before.
use Rattle.std.proofs.Common.{◌≡◌, ◌⊎◌, inl, inr, ℕ, zero, suc, ◌+◌, ◌<◌, List, [], ◌∷◌, ◌++◌, map, length, Bool, true, false, ◌||◌, ◌==◌, if◌then◌else◌}
use Rattle.std.proofs.Common.{Option, Some, None, refl, sym, ap, ◌∙◌, subst, arith}
use Rattle.std.specs.Prelude.{nat_le, slice_get, unwrap_or}
use Rattle.std.proofs.lemmas.Bool.{both_ways, eq-eqb, leb-false, leb-true, or_cases, or_parts}
use Rattle.fab_base.specs.declared.object.Oid.{Oid}
use Rattle.fab_base.specs.FlatMap.{is_among}
use Rattle.fab_protocol.specs.Caches.{at_store, cached, cached_row, last_distinct}
use Rattle.fab_protocol.specs.Tables.{row_of}
use Rattle.fab_protocol.specs.Versions.{Row, Rows, name_of, names_of}
use Rattle.fab_protocol.proofs.TableLaws.{row_of_name}
use Rattle.fab_integrity.proofs.Invariant.{In}
use Rattle.fab_integrity.proofs.Lists.{filter_in, in_filter, in_map, map_in}
use Rattle.fab_integrity.proofs.Maps.{among_in, in_among, row_listed}
use Rattle.fab_integrity.proofs.Replays.{in_distinct}

-- ---- one cache

-- one row more in a cache: there are as many rows as its newer ones, or it is in front of these
kept_step : (k : ℕ) (row : Row) (newer rows : Rows) (o : Oid) → (In o (names_of rows) → length newer < k → In o (names_of newer)) → (b : Bool)
    → (is_among row.0 (names_of newer) || nat_le k (length newer)) ≡ b → length (if b then newer else row ∷ newer) < k
    → (o ≡ row.0) ⊎ In o (names_of rows) → In o (names_of (if b then newer else row ∷ newer))
kept_step k row newer rows o rest true e few (inr there) = rest there few
kept_step k row newer rows o rest true e few (inl same) = elim (or_cases (is_among row.0 (names_of newer)) (nat_le k (length newer)) e) [
  | inl among ↦ subst (λ p. In p (names_of newer)) (sym same) (among_in row.0 (names_of newer) among)
  | inr most ↦ absurd (omega (arith, few, leb-true k (length newer) most))
]
kept_step k row newer rows o rest false e few (inl same) = inl same
kept_step k row newer rows o rest false e few (inr there) = inr (rest there (omega (arith, few)))

-- where a cache isn't full it has each name that was put
kept_name : (k : ℕ) (rows : Rows) (o : Oid) → In o (names_of rows) → length (last_distinct k rows) < k → In o (names_of (last_distinct k rows))
kept_name k [] o h low = absurd h
kept_name k (row ∷ rows) o h low =
    kept_step k row (last_distinct k rows) rows o (kept_name k rows o)
    (is_among row.0 (names_of (last_distinct k rows)) || nat_le k (length (last_distinct k rows))) refl low h

in_older : (row r : Row) (newer rows : Rows) → (In r newer → In r rows) → (b : Bool) → In r (if b then newer else row ∷ newer) → In r (row ∷ rows)
in_older row r newer rows rest true i = inr (rest i)
in_older row r newer rows rest false (inl e) = inl e
in_older row r newer rows rest false (inr i) = inr (rest i)

names_right : (o : Oid) (xs ys : Rows) → In o (names_of ys) → In o (names_of (xs ++ ys))
names_right o [] ys i = i
names_right o (x ∷ xs) ys i = inr (names_right o xs ys i)

-- it is of these, or of the others and of a name that none of these has
abbrev IsOlder : Row → Rows → Rows → Type 0
IsOlder r xs ys = In r ys ⊎ (In r xs × (In r.0 (names_of ys) → ⊥))

one_older : (r x : Row) (xs ys : Rows) → IsOlder r xs ys → IsOlder r (x ∷ xs) ys
one_older r x xs ys (inl i) = inl i
one_older r x xs ys (inr g) = inr (inr g.0, g.1)

older_step : (k : ℕ) (x r : Row) (newer xs ys : Rows) → (In r newer → IsOlder r xs ys)
    → (In x.0 (names_of ys) → length newer < k → In x.0 (names_of newer)) → (b : Bool)
    → (is_among x.0 (names_of newer) || nat_le k (length newer)) ≡ b → In r (if b then newer else x ∷ newer) → IsOlder r (x ∷ xs) ys
older_step k x r newer xs ys rest kept true e i = one_older r x xs ys (rest i)
older_step k x r newer xs ys rest kept false e (inr i) = one_older r x xs ys (rest i)
older_step k x r newer xs ys rest kept false e (inl same) =
    let g = or_parts (is_among x.0 (names_of newer)) (nat_le k (length newer)) e in
    inr (
      inl same,
      λ there. both_ways (is_among x.0 (names_of newer)) g.0
          (in_among x.0 (names_of newer) (kept (subst (λ (z : Row). In z.0 (names_of ys)) same there) (leb-false k (length newer) g.1))),
    )

-- a cached row is of the last ones, or of a name that none of these has
old_or_new : (k : ℕ) (xs ys : Rows) (r : Row) → In r (last_distinct k (xs ++ ys)) → IsOlder r xs ys
old_or_new k [] ys r h = inl (in_distinct k ys r h)
old_or_new k (x ∷ xs) ys r h =
    older_step k x r (last_distinct k (xs ++ ys)) xs ys (old_or_new k xs ys r) (λ i few. kept_name k (xs ++ ys) x.0 (names_right x.0 xs ys i) few)
    (is_among x.0 (names_of (last_distinct k (xs ++ ys))) || nat_le k (length (last_distinct k (xs ++ ys)))) refl h

-- ---- the caches of all stores

-- the rows of a store that its cache has are such, from store s on
abbrev pub Cached : (Row → Type 0) → ℕ → List Rows → Type 0
Cached P s [] = Unit {0}
Cached P s (rows ∷ caches) = ((r : Row) → In r rows → r.0.store ≡ s → P r) × Cached P (suc s) caches

pub cached_blank : {A : Type 0} (P : Row → Type 0) (s : ℕ) (caches : List A) → Cached P s (map (λ rows. []) caches)
cached_blank P s [] = tt
cached_blank P s (rows ∷ caches) = ((λ r h e. absurd h), cached_blank P (suc s) caches)

-- behind puts: what was put, and what was cached and has another name
pub cached_behind : (P Q : Row → Type 0) (k : ℕ) (puts : Rows) → ((r : Row) → In r puts → Q r)
    → ((r : Row) → P r → (In r.0 (names_of puts) → ⊥) → Q r) → (s : ℕ) (caches : List Rows) → Cached P s caches → Cached Q s (cached k puts s caches)
cached_behind P Q k puts new old s [] h = tt
cached_behind P Q k puts new old s (rows ∷ caches) h = (
  (λ r i e. elim (old_or_new k rows (at_store s puts) r i) [
    | inl there ↦ new r (in_filter (λ (x : Row). x.0.store == s) r puts there).0
    | inr before ↦ old r (h.0 r before.0 e) (λ named.
        let put = in_map name_of r.0 puts named in
        before.1 (subst (λ o. In o (names_of (at_store s puts))) (sym put.2)
        (map_in name_of put.0 (at_store s puts)
        (filter_in (λ (x : Row). x.0.store == s) put.0 puts put.1 (eq-eqb put.0.0.store s (ap (λ (o : Oid). o.store) (sym put.2) ∙ e))))))
  ]),
  cached_behind P Q k puts new old (suc s) caches h.1,
)

slot_cached : (P : Row → Type 0) (s : ℕ) (caches : List Rows) → Cached P s caches → (i : ℕ) (rows : Rows) → slice_get caches i ≡ Some rows
    → (r : Row) → In r rows → r.0.store ≡ s + i → P r
slot_cached P s [] h i rows e r there at = let no : None ≡ Some rows = e in absurd (cc)
slot_cached P s (x ∷ caches) h zero rows e r there at =
    h.0 r (subst (In r) (sym (ap (λ o. unwrap_or o x) e)) there) (omega (arith, at))
slot_cached P s (x ∷ caches) h (suc i) rows e r there at = slot_cached P (suc s) caches h.1 i rows e r there (omega (arith, at))

-- so what is found is such
pub found_cached : (P : Row → Type 0) (caches : List Rows) → Cached P 0 caches → (o : Oid) (row : Row) → cached_row caches o ≡ Some row → P row × (row.0 ≡ o)
found_cached P caches h o row e = by_slot (slice_get caches o.store) refl e
  where
    by_slot : (slot : Option Rows) → slice_get caches o.store ≡ slot → row_of name_of (unwrap_or slot []) o ≡ Some row → P row × (row.0 ≡ o)
    by_slot None f g = let no : None ≡ Some row = g in absurd (cc)
    by_slot (Some rows) f g =
        let name : row.0 ≡ o = row_of_name name_of rows o row g in
        (slot_cached P 0 caches h o.store rows f row (row_listed name_of rows o row g) (omega (arith, ap (λ (p : Oid). p.store) name)), name)
