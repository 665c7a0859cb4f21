-- What is in a set after each operation on sets.
use Rattle.std.proofs.Common.{List, slice_index, IsTrue, ◌≡◌, ℕ, zero, suc, ◌+◌, ◌*◌, ◌/◌, ◌%◌, ◌^◌, ◌<◌, ◌≤◌, max, min, Bool, true, false, ◌||◌, ◌&&◌, ◌==◌, ◌↔◌, inl, inr, refl, sym, ap, ◌∙◌, subst, arith, bit_and, bit_or}
use Rattle.std.specs.Int.{bit_at, trailing_zeros, w64}
use Rattle.std.proofs.lemmas.Nat.{one_shl, and_le_l}
use Rattle.std.proofs.lemmas.Nat.Bits.{bit_at_or, bit_at_and, bit_at-lt, bit_at-pow_same, bit_at-pow_other, bit_at-zero, bit_at_above, shr_and_one, bit_at-trailing_zeros}
use Rattle.std.proofs.lemmas.Bool.{cases_eq, eq-eqb, ne_eqb, eqb-true, and_parts, and_from, or_cases, or_left, or_right, both_ways, true_from_ne_false}
use Rattle.fab_principals.specs.Sets.{in_set, Meets}

pub in_set-shifted : (set k : ℕ) → (bit_and (set / 2 ^ k) 1 == 1) ≡ in_set set k
unfolding in_set
in_set-shifted set k = rw shr_and_one refl

larger_bit : (x y : ℕ) → x < 2 → y < 2 → (max x y == 1) ≡ ((x == 1) || (y == 1))
larger_bit zero zero p q = refl
larger_bit zero (suc zero) p q = refl
larger_bit (suc zero) zero p q = refl
larger_bit (suc zero) (suc zero) p q = refl
larger_bit (suc (suc x)) y p q = absurd (omega arith)
larger_bit x (suc (suc y)) p q = absurd (omega arith)

smaller_bit : (x y : ℕ) → x < 2 → y < 2 → (min x y == 1) ≡ ((x == 1) && (y == 1))
smaller_bit zero zero p q = refl
smaller_bit zero (suc zero) p q = refl
smaller_bit (suc zero) zero p q = refl
smaller_bit (suc zero) (suc zero) p q = refl
smaller_bit (suc (suc x)) y p q = absurd (omega arith)
smaller_bit x (suc (suc y)) p q = absurd (omega arith)

pub in_set-or : (a b i : ℕ) → in_set (bit_or a b) i ≡ (in_set a i || in_set b i)
unfolding in_set
in_set-or a b i = ap (λ n. n == 1) (bit_at_or a b i) ∙ larger_bit (bit_at a i) (bit_at b i) (bit_at-lt a i) (bit_at-lt b i)

pub in_set-and : (a b i : ℕ) → in_set (bit_and a b) i ≡ (in_set a i && in_set b i)
unfolding in_set
in_set-and a b i = ap (λ n. n == 1) (bit_at_and a b i) ∙ smaller_bit (bit_at a i) (bit_at b i) (bit_at-lt a i) (bit_at-lt b i)

pub in_set-power : (k i : ℕ) → in_set (2 ^ k) i ≡ (i == k)
unfolding in_set
in_set-power k i =
    elim (cases_eq i k) [ inl same ↦ rw (same, bit_at-pow_same k) (sym (eq-eqb k k refl)) | inr other ↦ ap (λ n. n == 1) (bit_at-pow_other k i other) ∙ sym (ne_eqb i k other) ]

pub in_set-only : (k i : ℕ) → k < 64 → in_set (1 * 2 ^ k % 2 ^ 64) i ≡ (i == k)
in_set-only k i within = ap (λ n. in_set n i) (one_shl k 64 within) ∙ in_set-power k i

pub in_set-zero : (i : ℕ) → in_set 0 i ≡ false
unfolding in_set
in_set-zero i = ap (λ n. n == 1) (bit_at-zero i)

pub in_set-above : (set i : ℕ) → set < 2 ^ 64 → 64 ≤ i → in_set set i ≡ false
unfolding in_set
in_set-above set i fits high = ap (λ n. n == 1) (bit_at_above set 64 i fits high)

-- the place of the lowest bit of a set that isn't empty
pub in_set-lowest : (set : ℕ) → 0 < set → set < 2 ^ 64 → (trailing_zeros w64 set < 64) × (in_set set (trailing_zeros w64 set) ≡ true) × ((i : ℕ) → i < trailing_zeros w64 set → in_set set i ≡ false)
unfolding in_set
in_set-lowest set some fits =
    let found = bit_at-trailing_zeros w64 set some fits in
    (found.0, ap (λ n. n == 1) found.1, λ i below. ap (λ n. n == 1) (found.2 i below))

-- two sets with no bit in common
pub common-none : (a b : ℕ) → bit_and a b ≡ 0 → (i : ℕ) → (in_set a i && in_set b i) ≡ false
common-none a b empty i = sym (in_set-and a b i) ∙ ap (λ n. in_set n i) empty ∙ in_set-zero i

-- the lowest bit that two sets have in common
pub common-lowest : (a b : ℕ) → (bit_and a b ≡ 0 → ⊥) → a < 2 ^ 64 → ((in_set a (trailing_zeros w64 (bit_and a b)) && in_set b (trailing_zeros w64 (bit_and a b))) ≡ true)
    × ((i : ℕ) → i < trailing_zeros w64 (bit_and a b) → (in_set a i && in_set b i) ≡ false)
common-lowest a b some fits =
    let positive : 0 < bit_and a b = omega arith in
    let small : bit_and a b < 2 ^ 64 = omega (arith, and_le_l a b) in
    let found = in_set-lowest (bit_and a b) positive small in
    (sym (in_set-and a b _) ∙ found.1, λ i below. sym (in_set-and a b i) ∙ found.2 i below)

-- two sets meet where they have a bit in common
pub meets-and : (a b : ℕ) → a < 2 ^ 64 → (t : Bool) → (t ≡ false → bit_and a b ≡ 0) → (t ≡ true → bit_and a b ≡ 0 → ⊥) → IsTrue t ↔ Meets a b
meets-and a b fits t when_false when_true = (
  λ e. let found = common-lowest a b (when_true e) fits in let parts = and_parts _ _ found.0 in (trailing_zeros w64 (bit_and a b), parts.0, parts.1),
  λ meets. true_from_ne_false t (λ e. both_ways _ (common-none a b (when_false e) meets.0) (and_from _ _ meets.1 meets.2)),
)

-- one more row that meets the set, or doesn't
pub sources_more : (rows : List ℕ) (set n found one wider : ℕ) → ((p : ℕ) → IsTrue (in_set found p) ↔ ((p < n) × Meets (slice_index rows p) set)) → Meets (slice_index rows n) set
    → ((i : ℕ) → in_set wider i ≡ (in_set found i || in_set one i)) → ((i : ℕ) → in_set one i ≡ (i == n)) → (p : ℕ) → IsTrue (in_set wider p) ↔ ((p < n + 1) × Meets (slice_index rows p) set)
sources_more rows set n found one wider known meets either is_one p = (
  λ t. elim (or_cases _ _ (sym (either p) ∙ t)) [
    | inl old ↦ let k = (known p).0 old in (omega (arith, k.0), k.1)
    | inr new ↦ let same : p ≡ n = eqb-true p n (sym (is_one p) ∙ new) in (omega arith, subst (λ (w : ℕ). Meets (slice_index rows w) set) (sym same) meets)
  ],
  λ h. either p ∙ elim (cases_eq p n) [
    | inl same ↦ or_right _ _ (is_one p ∙ eq-eqb p n same)
    | inr other ↦ or_left _ _ ((known p).1 (omega (arith, h.0, other), h.1))
  ],
)

pub sources_same : (rows : List ℕ) (set n found : ℕ) → ((p : ℕ) → IsTrue (in_set found p) ↔ ((p < n) × Meets (slice_index rows p) set)) → (Meets (slice_index rows n) set → ⊥) → (p : ℕ) → IsTrue (in_set found p) ↔ ((p < n + 1) × Meets (slice_index rows p) set)
sources_same rows set n found known misses p = (
  λ t. let k = (known p).0 t in (omega (arith, k.0), k.1),
  λ h. elim (cases_eq p n) [ inl same ↦ absurd (misses (subst (λ (w : ℕ). Meets (slice_index rows w) set) same h.1)) | inr other ↦ (known p).1 (omega (arith, h.0, other), h.1) ],
)
