-- Tables of relations, and what one more pair adds to them.
use Rattle.std.proofs.Common.{◌≡◌, ℕ, ◌+◌, ◌<◌, true, false, ◌||◌, ◌&&◌, ◌==◌, ◌↔◌, List, [], ◌∷◌, ◌++◌, length, take, set, replicate, slice_index, get_or, inl, inr, sym, ap, ◌∙◌, subst, arith, Contains}
use Rattle.std.proofs.lemmas.Bool.{or_cases, or_left, or_right, and_parts, and_from, cases_eq, eqb-true, eq-eqb, both_ways}
use Rattle.std.proofs.lemmas.List.{take_more, get_or_default, get_or-replicate, get_or-set_same, get_or-set_other, length-set, length-replicate}
use Rattle.std.proofs.lemmas.List.Elements.{Contains-append_left, Contains-push, Contains-push_cases}
use Rattle.fab_principals.specs.Sets.{in_set}
use Rattle.fab_principals.specs.Tables.{IsTable, Reaches}
use Rattle.fab_principals.proofs.SetLemmas.{in_set-zero}
use Rattle.fab_principals.proofs.ChainLemmas.{Reaches-push, Reaches-append}

-- a table of a relation is one of each relation that says the same
pub IsTable-same : (rows : List ℕ) (n : ℕ) (R S : ℕ → ℕ → Type 0) → ((p q : ℕ) → R p q ↔ S p q) → IsTable rows n R → IsTable rows n S
IsTable-same rows n R S same table = record { size = table.size; bits = λ p q below. (λ t. (same p q).0 ((table.bits p q below).0 t), λ s. (table.bits p q below).1 ((same p q).1 s)) }

-- where no pair is declared each reaches itself alone
pub IsTable-start : (rows : List ℕ) (n : ℕ) → IsTable rows n (λ p q. p ≡ q) → IsTable rows n (λ p q. Reaches [] p q)
IsTable-start rows n table = IsTable-same rows n (λ p q. p ≡ q) (λ p q. Reaches [] p q) (λ p q. (λ e. ([], e), λ way. alone p q way)) table
  where
    alone : (p q : ℕ) → Reaches [] p q → p ≡ q
    alone p q ([], e) = e
    alone p q (x ∷ rest, h) = absurd (omega (arith, h.0.1))

-- one more pair: whoever reaches its first reaches what its second reaches
pub IsTable-granted : (old new : List ℕ) (n : ℕ) (xs : List (ℕ × ℕ)) (a b : ℕ) → b < n → IsTable old n (λ p q. Reaches xs p q) → length new ≡ n
    → ((p q : ℕ) → p < n → in_set (slice_index new p) q ≡ (in_set (slice_index old p) q || (in_set (slice_index old p) a && in_set (slice_index old b) q))) → IsTable new n (λ p q. Reaches (xs ++ (a, b) ∷ []) p q)
IsTable-granted old new n xs a b b_in table size granted = record {
  size = size;
  bits = λ p q below.
      let pushed = Reaches-push xs a b p q in
      let here = table.bits p q below in
      let first = table.bits p a below in
      let second = table.bits b q b_in in (
        λ t. pushed.1 (elim (or_cases _ _ (sym (granted p q below) ∙ t)) [ inl old_one ↦ inl (here.0 old_one) | inr both ↦ let parts = and_parts _ _ both in inr (first.0 parts.0, second.0 parts.1) ]),
        λ way. granted p q below ∙ elim (pushed.0 way) [ inl old_way ↦ or_left _ _ (here.1 old_way) | inr ways ↦ or_right _ _ (and_from _ _ (first.1 ways.0) (second.1 ways.1)) ],
      );
}

-- one more pair whose first reached its second before
pub IsTable-kept : (rows : List ℕ) (n : ℕ) (xs : List (ℕ × ℕ)) (a b : ℕ) → Reaches xs a b → IsTable rows n (λ p q. Reaches xs p q) → IsTable rows n (λ p q. Reaches (xs ++ (a, b) ∷ []) p q)
IsTable-kept rows n xs a b known table =
    IsTable-same rows n (λ p q. Reaches xs p q) (λ p q. Reaches (xs ++ (a, b) ∷ []) p q)
    (λ p q. let pushed = Reaches-push xs a b p q in
    (λ way. pushed.1 (inl way), λ way. elim (pushed.0 way) [ inl old_way ↦ old_way | inr ways ↦ Reaches-append xs p b q (Reaches-append xs p a b ways.0 known) ways.1 ]))
    table

-- the empty table
pub IsTable-zero : (n : ℕ) → IsTable (replicate n 0) n (λ p q. Contains {X = ℕ × ℕ} [] (p, q))
IsTable-zero n = record {
  size = length-replicate n 0;
  bits = λ p q below.
      let empty : in_set (slice_index (replicate n 0) p) q ≡ false = ap (λ r. in_set r q) (get_or-replicate n p 0 0 below) ∙ in_set-zero q in
      (λ t. absurd (both_ways _ empty t), λ h. absurd (omega (arith, h.1)));
}

-- one row gains one number
pub IsTable-gained : (rows : List ℕ) (n : ℕ) (xs : List (ℕ × ℕ)) (a b row : ℕ) → a < n → IsTable rows n (λ p q. Contains xs (p, q)) → ((q : ℕ) → in_set row q ≡ (in_set (slice_index rows a) q || (q == b)))
    → IsTable (set rows a row) n (λ p q. Contains (xs ++ (a, b) ∷ []) (p, q))
IsTable-gained rows n xs a b row a_in table gained = record {
  size = length-set rows a row ∙ table.size;
  bits = λ p q below. elim (cases_eq p a) [
    | inl same ↦ subst (λ (w : ℕ). (in_set (slice_index (set rows a row) w) q ≡ true) ↔ Contains (xs ++ (a, b) ∷ []) (w, q)) (sym same) (at_row q)
    | inr other ↦ (
      λ t. Contains-append_left xs ((a, b) ∷ []) (p, q) ((table.bits p q below).0 (ap (λ r. in_set r q) (sym (get_or-set_other rows a p row 0 other)) ∙ t)),
      λ h. ap (λ r. in_set r q) (get_or-set_other rows a p row 0 other) ∙ (table.bits p q below).1 (elim (Contains-push_cases xs (a, b) (p, q) h) [
        | inl old ↦ old
        | inr new ↦ let first : (ℕ × ℕ) → ℕ = λ w. w.0 in absurd (other (sym (ap first new)))
      ]),
    )
  ];
}
  where
    is_row : slice_index (set rows a row) a ≡ row
    is_row = let within : a < length rows = omega (arith, table.size) in get_or-set_same rows a row 0 within

    at_row : (q : ℕ) → (in_set (slice_index (set rows a row) a) q ≡ true) ↔ Contains (xs ++ (a, b) ∷ []) (a, q)
    at_row q = (
      λ t. elim (or_cases _ _ (sym (gained q) ∙ ap (λ r. in_set r q) (sym is_row) ∙ t)) [
        | inl old ↦ Contains-append_left xs ((a, b) ∷ []) (a, q) ((table.bits a q a_in).0 old)
        | inr new ↦ subst (λ (w : ℕ). Contains (xs ++ (a, b) ∷ []) (a, w)) (sym (eqb-true q b new)) (Contains-push xs (a, b))
      ],
      λ h. ap (λ r. in_set r q) is_row ∙ gained q ∙ elim (Contains-push_cases xs (a, b) (a, q) h) [
        | inl old ↦ or_left _ _ ((table.bits a q a_in).1 old)
        | inr new ↦ let second : (ℕ × ℕ) → ℕ = λ w. w.1 in or_right _ _ (eq-eqb q b (sym (ap second new)))
      ],
    )

-- the row that was read
read_row : (rows : List ℕ) (k r : ℕ) → k < length rows → r ≡ get_or rows k r → r ≡ slice_index rows k
read_row rows k r within e = e ∙ get_or_default rows k r 0 within

-- a loop over the declared pairs: what stands in the table after the next one
pub direct_more : (rows : List ℕ) (n : ℕ) (xs : List (ℕ × ℕ)) (i old row : ℕ) → i < length xs → (get_or xs i (0, 0)).0 < n → IsTable rows n (λ p q. Contains (take i xs) (p, q)) → old ≡ get_or rows (get_or xs i (0, 0)).0 old
    → ((q : ℕ) → in_set row q ≡ (in_set old q || (q == (get_or xs i (0, 0)).1))) → IsTable (set rows (get_or xs i (0, 0)).0 row) n (λ p q. Contains (take (i + 1) xs) (p, q))
direct_more rows n xs i old row within a_in table is gained =
    let a = (get_or xs i (0, 0)).0 in
    let b = (get_or xs i (0, 0)).1 in
    let there : a < length rows = omega (arith, table.size) in
    let read : old ≡ slice_index rows a = read_row rows a old there is in
    subst (λ (w : List (ℕ × ℕ)). IsTable (set rows a row) n (λ p q. Contains w (p, q))) (sym (take_more xs i (0, 0) within))
    (IsTable-gained rows n (take i xs) a b row a_in table (λ q. gained q ∙ ap (λ r. in_set r q || (q == b)) read))

pub closed_more : (old new : List ℕ) (n : ℕ) (xs : List (ℕ × ℕ)) (i given : ℕ) → i < length xs → (get_or xs i (0, 0)).1 < n → IsTable old n (λ p q. Reaches (take i xs) p q) → length new ≡ length old
    → given ≡ get_or old (get_or xs i (0, 0)).1 given
    → ((p q : ℕ) → p < length old → in_set (slice_index new p) q ≡ (in_set (slice_index old p) q || (in_set (slice_index old p) (get_or xs i (0, 0)).0 && in_set given q)))
    → IsTable new n (λ p q. Reaches (take (i + 1) xs) p q)
closed_more old new n xs i given within b_in table size is granted =
    let a = (get_or xs i (0, 0)).0 in
    let b = (get_or xs i (0, 0)).1 in
    let there : b < length old = omega (arith, table.size) in
    let read : given ≡ slice_index old b = read_row old b given there is in
    subst (λ (w : List (ℕ × ℕ)). IsTable new n (λ p q. Reaches w p q)) (sym (take_more xs i (0, 0) within))
    (IsTable-granted old new n (take i xs) a b b_in table (size ∙ table.size) (λ p q below. granted p q (omega (arith, table.size)) ∙ ap (λ r. in_set (slice_index old p) q || (in_set (slice_index old p) a && in_set r q)) read))

pub closed_same : (rows : List ℕ) (n : ℕ) (xs : List (ℕ × ℕ)) (i given : ℕ) → i < length xs → (get_or xs i (0, 0)).0 < n → IsTable rows n (λ p q. Reaches (take i xs) p q)
    → given ≡ get_or rows (get_or xs i (0, 0)).0 given → in_set given (get_or xs i (0, 0)).1 ≡ true → IsTable rows n (λ p q. Reaches (take (i + 1) xs) p q)
closed_same rows n xs i given within a_in table is known =
    let a = (get_or xs i (0, 0)).0 in
    let b = (get_or xs i (0, 0)).1 in
    let there : a < length rows = omega (arith, table.size) in
    let read : given ≡ slice_index rows a = read_row rows a given there is in
    subst (λ (w : List (ℕ × ℕ)). IsTable rows n (λ p q. Reaches w p q)) (sym (take_more xs i (0, 0) within))
    (IsTable-kept rows n (take i xs) a b ((table.bits a b a_in).0 (ap (λ r. in_set r b) (sym read) ∙ known)) table)
