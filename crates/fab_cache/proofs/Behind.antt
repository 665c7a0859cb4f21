-- Puts in two parts leave what they leave in a row.
use Rattle.std.proofs.Common.{◌≡◌, ℕ, suc, ◌+◌, ◌≤◌, nat_le, Bool, true, false, not, cond, if◌then◌else◌, ◌⊎◌}
use Rattle.std.proofs.Common.{[], ◌∷◌, ◌++◌, length, refl, sym, subst, ap, ◌∙◌, inl, inr, arith}
use Rattle.std.specs.List.{filter}
use Rattle.std.proofs.lemmas.Bool.{or_parts, or_cases, leb-true, le-leb, or_right}
use Rattle.fab_base.specs.FlatMap.{is_among}
use Rattle.fab_protocol.specs.Tables.{OnlyOnce}
use Rattle.fab_protocol.specs.Versions.{Row, Rows, names_of}
use Rattle.fab_protocol.specs.Caches.{with_older, last_distinct}
use Rattle.fab_cache.specs.Caching.{lasting}
use Rattle.fab_cache.proofs.Counts.{many_new}
use Rattle.fab_cache.proofs.Lasting.{settled, older_settled, older_new, older_by, settled_taken, among_along, once_along, last_behind, last_walk}

-- no newer row has the name
abbrev is_new : Rows → Row → Bool
is_new newer row = not (is_among row.0 (names_of newer))

one_further : (a b : ℕ) → suc (a + b) ≡ a + suc b
one_further a b = omega arith

module _ (k : ℕ) where
  full : (x : Row) (l : Rows) → k ≤ length l → settled k x.0 l ≡ true
  full x l h = or_right (is_among x.0 (names_of l)) (nat_le k (length l)) (le-leb k (length l) h)

  longer : (row : Row) (newer : Rows) → k ≤ length newer → k ≤ length (with_older k row newer)
  longer row newer h = older_by k (λ l. k ≤ length l) row newer h (λ e. omega (arith, h))

  -- behind a walk over distinct names there is no room, or all that were new are there
  all_or_full : (xs newer : Rows) → OnlyOnce (names_of xs)
      → (k ≤ length (lasting k xs newer)) ⊎ (length (lasting k xs newer) ≡ length newer + length (filter (is_new newer) xs))
  all_or_full [] newer h = inr (omega arith)
  all_or_full (x ∷ xs) newer h = elim (all_or_full xs newer h.1) [
    | inl f ↦ inl (longer x (lasting k xs newer) f)
    | inr e ↦ step (settled k x.0 (lasting k xs newer)) refl e
  ]
    where
      known : is_among x.0 (names_of (lasting k xs newer)) ≡ is_among x.0 (names_of newer)
      known = among_along k x.0 xs newer h.0

      counted : (b : Bool) → is_among x.0 (names_of newer) ≡ b
          → length (filter (is_new newer) (x ∷ xs)) ≡ length (if b then filter (is_new newer) xs else x ∷ filter (is_new newer) xs)
      counted b e = ap (λ c. length (cond (not c) (x ∷ filter (is_new newer) xs) (filter (is_new newer) xs))) e ∙ turned b
        where
          turned : (c : Bool) → length (cond (not c) (x ∷ filter (is_new newer) xs) (filter (is_new newer) xs))
              ≡ length (if c then filter (is_new newer) xs else x ∷ filter (is_new newer) xs)
          turned true = refl
          turned false = refl

      step : (b : Bool) → settled k x.0 (lasting k xs newer) ≡ b → length (lasting k xs newer) ≡ length newer + length (filter (is_new newer) xs)
          → (k ≤ length (lasting k (x ∷ xs) newer)) ⊎ (length (lasting k (x ∷ xs) newer) ≡ length newer + length (filter (is_new newer) (x ∷ xs)))
      step true b e =
          let same = ap length (older_settled k x (lasting k xs newer) b) in
          elim (or_cases (is_among x.0 (names_of (lasting k xs newer))) (nat_le k (length (lasting k xs newer))) b) [
            | inl there ↦ inr (same ∙ e ∙ ap (λ n. length newer + n) (sym (counted true (sym known ∙ there))))
            | inr no_room ↦ inl (subst (λ n. k ≤ n) (sym same) (leb-true k (length (lasting k xs newer)) no_room))
          ]
      step false b e =
          let absent = (or_parts (is_among x.0 (names_of (lasting k xs newer))) (nat_le k (length (lasting k xs newer))) b).0 in
          inr (ap length (older_new k x (lasting k xs newer) b)
          ∙ ap suc e
          ∙ one_further (length newer) (length (filter (is_new newer) xs))
          ∙ ap (λ n. length newer + n) (sym (counted false (sym known ∙ absent))))

  -- a walk over k distinct names leaves no room
  full_along : (xs newer : Rows) → OnlyOnce (names_of xs) → k ≤ length xs → k ≤ length (lasting k xs newer)
  full_along xs newer h n = elim (all_or_full xs newer h) [
    | inl f ↦ f
    | inr e ↦
        let many : length xs ≤ length newer + length (filter (is_new newer) xs) = many_new newer xs h in
        omega (arith, e, n, many)
  ]

  -- what is settled by some rows is settled behind a walk over them
  settled_by : (x : Row) (xs newer : Rows) → OnlyOnce (names_of xs) → settled k x.0 xs ≡ true → settled k x.0 (lasting k xs newer) ≡ true
  settled_by x xs newer h b = elim (or_cases (is_among x.0 (names_of xs)) (nat_le k (length xs)) b) [
    | inl there ↦ settled_taken k x.0 xs newer there
    | inr no_room ↦ full x (lasting k xs newer) (full_along xs newer h (leb-true k (length xs) no_room))
  ]

  -- a walk over what a walk leaves is that walk
  walk_of_walk : (xs newer : Rows) → lasting k (lasting k xs []) newer ≡ lasting k xs newer
  walk_of_walk [] newer = refl
  walk_of_walk (x ∷ xs) newer = step (settled k x.0 (lasting k xs [])) refl (walk_of_walk xs newer)
    where
      step : (b : Bool) → settled k x.0 (lasting k xs []) ≡ b → lasting k (lasting k xs []) newer ≡ lasting k xs newer
          → lasting k (lasting k (x ∷ xs) []) newer ≡ lasting k (x ∷ xs) newer
      step true b rest =
          ap (λ l. lasting k l newer) (older_settled k x (lasting k xs []) b)
          ∙ rest
          ∙ sym (older_settled k x (lasting k xs newer)
          (subst (λ l. settled k x.0 l ≡ true) rest (settled_by x (lasting k xs []) newer (once_along k xs [] tt) b)))
      step false b rest = ap (λ l. lasting k l newer) (older_new k x (lasting k xs []) b) ∙ ap (with_older k x) rest

  pub last_in_a_row : (xs ys : Rows) → last_distinct k (last_distinct k xs ++ ys) ≡ last_distinct k (xs ++ ys)
  last_in_a_row xs ys =
      last_behind k (last_distinct k xs) ys
      ∙ ap (λ l. lasting k l (last_distinct k ys)) (last_walk k xs)
      ∙ walk_of_walk xs (last_distinct k ys)
      ∙ sym (last_behind k xs ys)
