-- The bits of a mask that a test makes.
use Rattle.std.proofs.Common.{◌≡◌, ◌↔◌, ℕ, ◌+◌, ◌*◌, ◌^◌, ◌%◌, ◌<◌, ◌≤◌, Bool, true, false, inl, inr, sym, ◌∙◌, subst, arith, bit_or, IsBitSet}
use Rattle.std.proofs.lemmas.Bool.{cases_eq}
use Rattle.fab_places.proofs.Bits.{bit_set, bit_kept}
use Rattle.fab_rights.specs.Computed.{has_bit}
use Rattle.fab_rights.proofs.Bits.{has_bit_exact, same_truth}

-- a mask with bit k, too
abbrev pub with_bit : ℕ → ℕ → ℕ
with_bit mask k = bit_or mask (1 * 2 ^ k % 2 ^ 64)

is_set : (mask k : ℕ) → k < 64 → has_bit (with_bit mask k) k ≡ true
is_set mask k below = (has_bit_exact (with_bit mask k) k).1 (bit_set mask k below)

is_kept : (mask k i : ℕ) → k < 64 → (i ≡ k → ⊥) → has_bit (with_bit mask k) i ≡ has_bit mask i
is_kept mask k i below other =
    let kept : IsBitSet (with_bit mask k) i ↔ IsBitSet mask i = bit_kept mask k i below other in
    let before = has_bit_exact mask i in
    let after = has_bit_exact (with_bit mask k) i in
    same_truth _ _ {P = IsBitSet mask i} (λ t. kept.0 (after.0 t), λ bit. after.1 (kept.1 bit)) before

-- the numbers below n have been tested, and the mask has no others
pub record Tested (Post : ℕ → Bool → Type 0) (mask n : ℕ) : Type 0 where
  pub tested : (k : ℕ) → k < n → Post k (has_bit mask k)
  pub others : (k : ℕ) → n ≤ k → has_bit mask k ≡ false

pub passed : (Post : ℕ → Bool → Type 0) (mask n : ℕ) → n < 64 → Tested Post mask n → Post n true → Tested Post (with_bit mask n) (n + 1)
passed Post mask n below before post = record {
  tested = λ k within. elim (cases_eq k n) [
    | inl same ↦ subst (λ w. Post w (has_bit (with_bit mask n) w)) (sym same) (subst (Post n) (sym (is_set mask n below)) post)
    | inr other ↦ subst (Post k) (sym (is_kept mask n k below other)) (before.tested k (omega arith))
  ];
  others = λ k above. is_kept mask n k below (λ same. absurd (omega arith)) ∙ before.others k (omega arith);
}

pub failed : (Post : ℕ → Bool → Type 0) (mask n : ℕ) → Tested Post mask n → Post n false → Tested Post mask (n + 1)
failed Post mask n before post = record {
  tested = λ k within. elim (cases_eq k n) [
    | inl same ↦ subst (λ w. Post w (has_bit mask w)) (sym same) (subst (Post n) (sym (before.others n (omega arith))) post)
    | inr other ↦ before.tested k (omega arith)
  ];
  others = λ k above. before.others k (omega arith);
}
