use Rattle.std.proofs.Common.{◌≡◌, ℕ, ◌||◌, drop}
use Rattle.fab_sets.specs.Numbers.{is_listed}
use Rattle.fab_sets.proofs.numbers.set_of.Given as goal

abbrev pub invariant-loop-number : goal.invariant-loop-number
invariant-loop-number l = (n : ℕ) → (is_listed n l.set.keys || is_listed n (drop l.number-index l.numbers)) ≡ is_listed n l.numbers
