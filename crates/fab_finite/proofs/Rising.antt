-- Rising lists of numbers, in which none stands twice: those of a range, those that pass a test, and the stores of an attempt.
use Rattle.std.proofs.Common.{◌≡◌, ℕ, zero, suc, ◌+◌, ◌≤◌, List, [], ◌∷◌, map, ◌++◌, fold, Bool, true, false, cond, if◌then◌else◌, ◌==◌, nat_lt, refl, sym, ap, inl, inr, arith}
use Rattle.std.specs.List.{filter, range_with_len}
use Rattle.std.proofs.lemmas.Bool.{cases_eq, ne_eqb}
use Rattle.std.proofs.lemmas.Bool.Decides.{nat_tests}
use Rattle.fab_protocol.specs.declared.parts.Parts.{Parts}
use Rattle.fab_protocol.specs.Parts.{with_number, stores_of, touched_names}
use Rattle.fab_integrity.proofs.Invariant.{In}
use Rattle.fab_lined.proofs.Begun.{one}

-- each is above the one before it, and none below this one
abbrev pub Rising : ℕ → List ℕ → Type 0
Rising low [] = Unit {0}
Rising low (n ∷ ns) = (low ≤ n) × Rising (n + 1) ns

lower : (low high : ℕ) (ns : List ℕ) → low ≤ high → Rising high ns → Rising low ns
lower low high [] less rises = tt
lower low high (n ∷ ns) less rises = (let h = rises.0 in omega (arith, h, less), rises.1)

pub rising_range : (a n : ℕ) → Rising a (range_with_len a n)
rising_range a zero = tt
rising_range a (suc n) = (omega arith, rising_range (a + 1) n)

pub rising_filter : (p : ℕ → Bool) (low : ℕ) (ns : List ℕ) → Rising low ns → Rising low (filter p ns)
rising_filter p low [] rises = tt
rising_filter p low (n ∷ ns) rises = by (p n) (rising_filter p (n + 1) ns rises.1)
  where
    by : (b : Bool) → Rising (n + 1) (filter p ns) → Rising low (cond b (n ∷ filter p ns) (filter p ns))
    by true later = (rises.0, later)
    by false later = lower low (n + 1) (filter p ns) (let h = rises.0 in omega (arith, h)) later

-- ---- no number stands twice

pub in_rising : (low x : ℕ) (ns : List ℕ) → Rising low ns → In x ns → low ≤ x
in_rising low x [] rises there = absurd there
in_rising low x (n ∷ ns) rises (inl same) = let h = rises.0 in omega (arith, h, same)
in_rising low x (n ∷ ns) rises (inr there) = let h = rises.0 in let g = in_rising (n + 1) x ns rises.1 there in omega (arith, h, g)

abbrev pub Apart : List ℕ → Type 0
Apart [] = Unit {0}
Apart (n ∷ ns) = (In n ns → ⊥) × Apart ns

pub rising_apart : (low : ℕ) (ns : List ℕ) → Rising low ns → Apart ns
rising_apart low [] rises = tt
rising_apart low (n ∷ ns) rises = (λ there. let h = in_rising (n + 1) n ns rises.1 there in absurd (omega (arith, h)), rising_apart (n + 1) ns rises.1)

-- ---- how often a number stands in a list

pub one_few : (b : Bool) → one b ≤ 1
one_few true = omega arith
one_few false = omega arith

abbrev pub times : ℕ → List ℕ → ℕ
times y [] = 0
times y (x ∷ xs) = one (x == y) + times y xs

times_out : (y : ℕ) (ns : List ℕ) → (In y ns → ⊥) → times y ns ≡ 0
times_out y [] out = refl
times_out y (n ∷ ns) out =
    let here = ap one (ne_eqb n y (λ same. out (inl (sym same)))) in
    let later = times_out y ns (λ there. out (inr there)) in
    omega (arith, here, later)

pub times_once : (y low : ℕ) (ns : List ℕ) → Rising low ns → times y ns ≤ 1
times_once y low [] rises = omega arith
times_once y low (n ∷ ns) rises = elim (cases_eq n y) [
  | inl same ↦
      let later = times_out y ns (λ there. let h = in_rising (n + 1) y ns rises.1 there in absurd (omega (arith, h, same))) in
      let few = one_few (n == y) in
      omega (arith, later, few)
  | inr ne ↦ let none = ap one (ne_eqb n y ne) in let later = times_once y (n + 1) ns rises.1 in omega (arith, none, later)
]

-- ---- the stores of an attempt

rising_with : (low : ℕ) (ns : List ℕ) (n : ℕ) → low ≤ n → Rising low ns → Rising low (with_number ns n)
rising_with low [] n less rises = (less, tt)
rising_with low (m ∷ ns) n less rises =
    elim (nat_lt n m) as (λ b. nat_lt n m ≡ b → Rising low (if b then n ∷ m ∷ ns else (if n == m then m ∷ ns else m ∷ with_number ns n))) [
      | true ↦ λ e. (less, (below e, rises.1))
      | false ↦ λ e. elim (n == m) as (λ b. (n == m) ≡ b → Rising low (if b then m ∷ ns else m ∷ with_number ns n)) [
        | true ↦ λ f. rises
        | false ↦ λ f. (rises.0, rising_with (m + 1) ns n (above e f) rises.1)
      ] refl
    ] refl
  where
    below : nat_lt n m ≡ true → n + 1 ≤ m
    below e = grind (arith, nat_tests)

    above : nat_lt n m ≡ false → (n == m) ≡ false → m + 1 ≤ n
    above e f = grind (arith, nat_tests)

rising_all : (ms ns : List ℕ) → Rising 0 ns → Rising 0 (fold with_number ns ms)
rising_all [] ns rises = rises
rising_all (m ∷ ms) ns rises = rising_all ms (with_number ns m) (rising_with 0 ns m (omega arith) rises)

pub rising_stores : (parts : Parts) → Rising 0 (stores_of parts)
rising_stores parts = rising_all (map (λ o. o.store) (touched_names parts ++ map (λ c. c.0) parts.creates)) [] tt
