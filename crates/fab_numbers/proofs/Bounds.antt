-- What is bounded for the greatest is bounded for each.
use Rattle.std.proofs.Common.{◌≡◌, ℕ, zero, suc, ◌<◌, ◌≤◌, Bool, true, false, cond, List, [], ◌∷◌, map, length, get_or, find, Some, ap, arith}
use Rattle.fab_tree.specs.Limits.{greatest}

-- one that is found
pub found_within : {A : Type 0} (p : A → Bool) (size : A → ℕ) (xs : List A) (x : A) → find p xs ≡ Some x → size x ≤ greatest (map size xs)
found_within p size [] x e = absurd (cc)
found_within p size (y ∷ ys) x e = by (p y) e (found_within p size ys x)
  where
    by : (b : Bool) → cond b (Some y) (find p ys) ≡ Some x → (find p ys ≡ Some x → size x ≤ greatest (map size ys)) → size x ≤ greatest (map size (y ∷ ys))
    by true h later = let same : y ≡ x = cc in let s = ap size same in omega (arith, s)
    by false h later = let l = later h in omega (arith, l)

-- one at a place
pub element_within : {A : Type 0} (size : A → ℕ) (xs : List A) (i : ℕ) (x : A) → i < length xs → x ≡ get_or xs i x → size x ≤ greatest (map size xs)
element_within size [] i x within is = absurd (omega (arith, within))
element_within size (y ∷ ys) zero x within is = let s = ap size is in omega (arith, s)
element_within size (y ∷ ys) (suc i) x within is = let l = element_within size ys i x (omega (arith, within)) is in omega (arith, l)
