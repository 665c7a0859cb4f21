-- What the digits of a word stand for.
use Rattle.std.proofs.Common.{◌≡◌, ℕ, suc, ◌+◌, ◌-◌, ◌*◌, ◌≤◌, ◌<◌, List, [], ◌∷◌, length, drop, get_or, ap, sym, arith, drop-cons}
use Rattle.std.specs.Prelude.{None}
use Rattle.std.proofs.lemmas.Bool.Decides.{nat_tests}
use Rattle.fab_base.specs.Tokens.{value_from, number_kind}

-- more digits make the number no smaller
pub value_from-le : (n : ℕ) (ds : List ℕ) → n ≤ value_from n ds
value_from-le n [] = omega arith
value_from-le n (d ∷ ds) = omega (arith, value_from-le (10 * n + (d - 48)) ds)

-- a number that is too great is none
pub number_kind-above : (n : ℕ) → 2147483648 < n → number_kind n ≡ None
number_kind-above n h = grind (arith, nat_tests)

-- digits of which a front stands for too great a number
pub beyond : (v n i : ℕ) (ds : List ℕ) → i < length ds → n ≡ get_or ds i 0 - 48 → value_from v (drop i ds) ≡ value_from 0 ds → 2147483648 < 10 * v + n → None ≡ number_kind (value_from 0 ds)
beyond v n i ds h e same great =
    let next : value_from v (drop i ds) ≡ value_from (10 * v + (get_or ds i 0 - 48)) (drop (suc i) ds) = ap (value_from v) (drop-cons ds i 0 h) in
    sym (number_kind-above (value_from 0 ds) (omega (arith, next, same, value_from-le (10 * v + (get_or ds i 0 - 48)) (drop (suc i) ds))))
