-- Masks of which one has all that is in the other.
use Rattle.std.proofs.Common.{◌≡◌, ◌↔◌, ℕ, inl, inr, sym, ◌∙◌, subst, arith, IsBitSet, bit_and}
use Rattle.std.specs.Int.{bit_at}
use Rattle.std.proofs.lemmas.Bool.{cases_eq}
use Rattle.std.proofs.lemmas.Nat.Bits.{bit_at_and, bit_at-lt, same_from_bits}
use Rattle.fab_authority.proofs.Deciding.{bit_is_set, set_is_bit}
use Rattle.fab_places.proofs.Bits.{in_both}

pub all_in : (a b : ℕ) → bit_and a b ≡ a → (l : ℕ) → IsBitSet a l → IsBitSet b l
all_in a b e l bit = ((in_both a b l).0 (subst (λ (m : ℕ). IsBitSet m l) (sym e) bit)).1

pub nothing_else : (a b : ℕ) → ((l : ℕ) → IsBitSet a l → IsBitSet b l) → bit_and a b ≡ a
nothing_else a b h = same_from_bits (bit_and a b) a (λ i. bit_at_and a b i ∙ elim (cases_eq (bit_at a i) 1) [
  | inl set ↦ let other = set_is_bit b i (h i (bit_is_set a i set)) in omega (arith, set, other)
  | inr clear ↦ let low = bit_at-lt a i in omega (arith, clear, low)
])

pub same_part : (a b : ℕ) → (bit_and a b ≡ a) ↔ ((l : ℕ) → IsBitSet a l → IsBitSet b l)
same_part a b = (all_in a b, nothing_else a b)
