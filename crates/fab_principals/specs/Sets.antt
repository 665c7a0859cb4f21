-- Sets of numbers below 64, as bits.
use Rattle.std.specs.Prelude.{ℕ, Bool, ◌==◌, IsTrue}
use Rattle.std.specs.Int.{bit_at}

-- bit k of the set stands for k
unfoldable pub in_set : ℕ → ℕ → Bool
in_set set k = bit_at set k == 1

-- two sets have a number in common
abbrev pub Meets : ℕ → ℕ → Type 0
Meets a b = (x : ℕ) × IsTrue (in_set a x) × IsTrue (in_set b x)
