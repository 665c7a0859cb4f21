-- The walk from the newest row to the oldest: what a row finds settled, what stays, each name once.
use Rattle.std.proofs.Common.{◌≡◌, ℕ, suc, ◌≤◌, nat_le, Bool, true, false, ◌||◌, if◌then◌else◌}
use Rattle.std.proofs.Common.{[], ◌∷◌, ◌++◌, length, refl, sym, subst, ap, ◌∙◌, inl, inr, arith}
use Rattle.std.specs.List.{list_any}
use Rattle.std.proofs.lemmas.Bool.{or_parts, or_from, or_cases, true≢false, leb-true, leb-false, le-leb, lt-leb}
use Rattle.fab_base.specs.declared.object.Oid.{Oid}
use Rattle.fab_base.specs.FlatMap.{is_among, is_same}
use Rattle.fab_base.proofs.Names.{same_self}
use Rattle.fab_base.proofs.NameOrder.{one_name}
use Rattle.fab_protocol.specs.Tables.{OnlyOnce}
use Rattle.fab_protocol.specs.Versions.{Row, Rows, names_of}
use Rattle.fab_protocol.specs.Caches.{with_older, last_distinct}
use Rattle.fab_cache.specs.Caching.{lasting}

-- a name among rows, row by row
pub named : (o : Oid) (rows : Rows) → is_among o (names_of rows) ≡ list_any (λ row. is_same row.0 o) rows
named o [] = refl
named o (row ∷ rows) = ap (λ b. is_same row.0 o || b) (named o rows)

-- an older row of this name doesn't stay: these have the name, or there is no room
abbrev pub settled : ℕ → Oid → Rows → Bool
settled k o newer = is_among o (names_of newer) || nat_le k (length newer)

more_true : (a b d e : Bool) → (b || d) ≡ true → (d ≡ true → e ≡ true) → ((a || b) || e) ≡ true
more_true true b d e h f = refl
more_true false true d e h f = refl
more_true false false d e h f = f h

module _ (k : ℕ) where
  -- ---- one row

  pub older_settled : (row : Row) (newer : Rows) → settled k row.0 newer ≡ true → with_older k row newer ≡ newer
  older_settled row newer h = ap (λ b. if b then newer else row ∷ newer) h

  pub older_new : (row : Row) (newer : Rows) → settled k row.0 newer ≡ false → with_older k row newer ≡ row ∷ newer
  older_new row newer h = ap (λ b. if b then newer else row ∷ newer) h

  -- what holds of what is there, and of this row in front where it stays, holds behind it
  pub older_by : (P : Rows → Type 0) (row : Row) (newer : Rows) → P newer → (settled k row.0 newer ≡ false → P (row ∷ newer)) → P (with_older k row newer)
  older_by P row newer h f =
      elim (settled k row.0 newer) as (λ b. settled k row.0 newer ≡ b → P (if b then newer else row ∷ newer)) [
        | true ↦ λ e. h
        | false ↦ λ e. f e
      ] refl

  -- ---- what is settled stays so

  room_less : (n : ℕ) → nat_le k n ≡ true → nat_le k (suc n) ≡ true
  room_less n h = le-leb k (suc n) (omega (arith, leb-true k n h))

  settled_more : (o : Oid) (row : Row) (newer : Rows) → settled k o newer ≡ true → settled k o (row ∷ newer) ≡ true
  settled_more o row newer h =
      more_true (is_same row.0 o) (is_among o (names_of newer)) (nat_le k (length newer)) (nat_le k (suc (length newer))) h (room_less (length newer))

  pub settled_one : (o : Oid) (row : Row) (newer : Rows) → settled k o newer ≡ true → settled k o (with_older k row newer) ≡ true
  settled_one o row newer h = older_by (λ l. settled k o l ≡ true) row newer h (λ e. settled_more o row newer h)

  pub settled_along : (o : Oid) (xs newer : Rows) → settled k o newer ≡ true → settled k o (lasting k xs newer) ≡ true
  settled_along o [] newer h = h
  settled_along o (x ∷ xs) newer h = settled_one o x (lasting k xs newer) (settled_along o xs newer h)

  settled_itself : (row : Row) (newer : Rows) → settled k row.0 (with_older k row newer) ≡ true
  settled_itself row newer =
      elim (settled k row.0 newer) as (λ b. settled k row.0 newer ≡ b → settled k row.0 (if b then newer else row ∷ newer) ≡ true) [
        | true ↦ λ e. e
        | false ↦ λ e. ap (λ b. (b || is_among row.0 (names_of newer)) || nat_le k (suc (length newer))) (same_self row.0)
      ] refl

  -- so is a name behind the walk over its row
  pub settled_taken : (o : Oid) (xs newer : Rows) → is_among o (names_of xs) ≡ true → settled k o (lasting k xs newer) ≡ true
  settled_taken o [] newer h = absurd (true≢false (sym h))
  settled_taken o (x ∷ xs) newer h =
      elim (or_cases (is_same x.0 o) (is_among o (names_of xs)) h) [
        | inl e ↦ subst (λ p. settled k p (lasting k (x ∷ xs) newer) ≡ true) (one_name x.0 o e) (settled_itself x (lasting k xs newer))
        | inr e ↦ settled_one o x (lasting k xs newer) (settled_taken o xs newer e)
      ]

  -- ---- names

  -- a name that the walk doesn't meet is behind it as it was
  pub among_along : (o : Oid) (xs newer : Rows) → is_among o (names_of xs) ≡ false → is_among o (names_of (lasting k xs newer)) ≡ is_among o (names_of newer)
  among_along o [] newer h = refl
  among_along o (x ∷ xs) newer h =
      let parts = or_parts (is_same x.0 o) (is_among o (names_of xs)) h in
      let rest = among_along o xs newer parts.1 in
      older_by (λ l. is_among o (names_of l) ≡ is_among o (names_of newer)) x (lasting k xs newer) rest
      (λ e. ap (λ b. b || is_among o (names_of (lasting k xs newer))) parts.0 ∙ rest)

  pub once_along : (xs newer : Rows) → OnlyOnce (names_of newer) → OnlyOnce (names_of (lasting k xs newer))
  once_along [] newer h = h
  once_along (x ∷ xs) newer h =
      let rest = once_along xs newer h in
      older_by (λ l. OnlyOnce (names_of l)) x (lasting k xs newer) rest
      (λ e. ((or_parts (is_among x.0 (names_of (lasting k xs newer))) (nat_le k (length (lasting k xs newer))) e).0, rest))

  -- ---- lengths

  room_more : (n : ℕ) → nat_le k n ≡ false → suc n ≤ k
  room_more n h = omega (arith, leb-false k n h)

  pub few_along : (xs newer : Rows) → length newer ≤ k → length (lasting k xs newer) ≤ k
  few_along [] newer h = h
  few_along (x ∷ xs) newer h =
      older_by (λ l. length l ≤ k) x (lasting k xs newer) (few_along xs newer h)
      (λ e. room_more (length (lasting k xs newer)) (or_parts (is_among x.0 (names_of (lasting k xs newer))) (nat_le k (length (lasting k xs newer))) e).1)

  -- ---- walks in a row

  pub lasting_behind : (xs ys newer : Rows) → lasting k (xs ++ ys) newer ≡ lasting k xs (lasting k ys newer)
  lasting_behind [] ys newer = refl
  lasting_behind (x ∷ xs) ys newer = ap (with_older k x) (lasting_behind xs ys newer)

  pub last_behind : (xs ys : Rows) → last_distinct k (xs ++ ys) ≡ lasting k xs (last_distinct k ys)
  last_behind [] ys = refl
  last_behind (x ∷ xs) ys = ap (with_older k x) (last_behind xs ys)

  pub last_walk : (xs : Rows) → last_distinct k xs ≡ lasting k xs []
  last_walk [] = refl
  last_walk (x ∷ xs) = ap (with_older k x) (last_walk xs)

  -- ---- the last so many distinct

  pub last_few : (xs : Rows) → length (last_distinct k xs) ≤ k
  last_few xs = subst (λ l. length l ≤ k) (sym (last_walk xs)) (few_along xs [] (omega arith))

  pub last_once : (xs : Rows) → OnlyOnce (names_of (last_distinct k xs))
  last_once xs = subst (λ l. OnlyOnce (names_of l)) (sym (last_walk xs)) (once_along xs [] tt)

  no_room_yet : (n : ℕ) → suc n ≤ k → nat_le k n ≡ false
  no_room_yet n h = lt-leb k n (omega (arith, h))

  -- rows that are few, each of another name, are their own last ones
  pub last_own : (xs : Rows) → OnlyOnce (names_of xs) → length xs ≤ k → last_distinct k xs ≡ xs
  last_own [] h n = refl
  last_own (x ∷ xs) h n =
      ap (with_older k x) (last_own xs h.1 (omega (arith, n)))
      ∙ older_new x xs (or_from (is_among x.0 (names_of xs)) (nat_le k (length xs)) h.0 (no_room_yet (length xs) n))

  pub last_again : (xs : Rows) → last_distinct k (last_distinct k xs) ≡ last_distinct k xs
  last_again xs = last_own (last_distinct k xs) (last_once xs) (last_few xs)
