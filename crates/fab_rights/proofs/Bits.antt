-- The bits of a number of 64 bits.
use Rattle.std.proofs.Common.{◌≡◌, ◌↔◌, ℕ, ◌*◌, ◌^◌, ◌<◌, Bool, true, false, not, IsTrue, refl, sym, true≢false, inl, inr, ap, ◌∙◌, arith, IsBitSet}
use Rattle.std.specs.Int.{bit_at}
use Rattle.std.proofs.lemmas.Bool.{cases_lt, false≢true, eq-eqb, ne_eqb}
use Rattle.std.proofs.lemmas.Nat.Bits.{and_pow, bit_at_above}
use Rattle.fab_rights.specs.Computed.{has_bit}

-- they are below 64
pub bit_below : (mask n : ℕ) → mask < 2 ^ 64 → IsBitSet mask n → n < 64
bit_below mask n fits bit = elim (cases_lt n 64) [
  | inl below ↦ below
  | inr high ↦
      let none : bit_at mask n ≡ 0 = bit_at_above mask 64 n fits high in
      absurd (bit (and_pow mask n ∙ ap (λ b. b * 2 ^ n) none ∙ omega arith))
]

-- two truth values that hold exactly where one fact does are one
pub same_truth : (a b : Bool) {P : Type 0} → (IsTrue a ↔ P) → (IsTrue b ↔ P) → a ≡ b
same_truth true true f g = refl
same_truth true false f g = absurd (false≢true (g.1 (f.0 refl)))
same_truth false true f g = absurd (false≢true (f.1 (g.0 refl)))
same_truth false false f g = refl

pub has_bit_exact : (mask n : ℕ) → IsTrue (has_bit mask n) ↔ IsBitSet mask n
has_bit_exact mask n = (
  λ t is. true≢false (sym t ∙ ap not (eq-eqb _ 0 is)),
  λ bit. ap not (ne_eqb _ 0 bit),
)
