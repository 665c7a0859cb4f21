-- Numbers of stores, each once, in order: what one more leaves, where a search finds it, and how many there are.
use Rattle.std.proofs.Common.{◌≡◌, ℕ, zero, suc, ◌+◌, ◌<◌, ◌≤◌, ◌^◌, true, false, ◌==◌, nat_lt, if◌then◌else◌}
use Rattle.std.proofs.Common.{List, [], ◌∷◌, ◌++◌, length, get_or, fold, map, Result, Ok, Err, OnOk, IfErr, refl, ap, ◌∙◌, arith, length-append}
use Rattle.std.proofs.lemmas.List.{length-map}
use Rattle.std.proofs.lemmas.List.Sums.{fold-append}
use Rattle.std.specs.List.{insert, AllByRecursion}
use Rattle.std.specs.List.Sorted.{IsBinarySearchResult}
use Rattle.std.specs.Ordering.{nat_cmp}
use Rattle.std.proofs.lemmas.Bool.Decides.{nat_tests}
use Rattle.std.proofs.lemmas.List.Sorted.{searched}
use Rattle.fab_base.specs.JournalSpelling.{AscendFrom, AreStores}
use Rattle.fab_base.specs.declared.object.Oid.{Oid}
use Rattle.fab_base.proofs.Lists.{all_append, all_map}
use Rattle.fab_protocol.specs.declared.parts.Parts.{Parts}
use Rattle.fab_protocol.specs.Parts.{KeepsParts, with_number, stores_of, touched_names}
use Rattle.fab_commit.specs.Coordinators.{AreAtNodes}

-- ---- one more

number_ascends_from : (low : ℕ) (ns : List ℕ) (n : ℕ) → low ≤ n → n < 2 ^ 16 → AscendFrom low ns → AscendFrom low (with_number ns n)
number_ascends_from low [] n l small h = (l, small, tt)
number_ascends_from low (m ∷ ms) n l small h =
    elim (nat_lt n m) as (λ b. nat_lt n m ≡ b → AscendFrom low (if b then n ∷ m ∷ ms else (if n == m then m ∷ ms else m ∷ with_number ms n))) [
      | true ↦ λ e. (l, small, (below e, h.1, h.2))
      | false ↦ λ e. elim (n == m) as (λ b. (n == m) ≡ b → AscendFrom low (if b then m ∷ ms else m ∷ with_number ms n)) [
        | true ↦ λ f. h
        | false ↦ λ f. (h.0, h.1, number_ascends_from (m + 1) ms n (above e f) small h.2)
      ] refl
    ] refl
  where
    below : nat_lt n m ≡ true → n + 1 ≤ m
    below e = grind (arith, nat_tests)

    above : nat_lt n m ≡ false → (n == m) ≡ false → m + 1 ≤ n
    above e f = grind (arith, nat_tests)

pub number_ascends : (ns : List ℕ) (n : ℕ) → n < 2 ^ 16 → AscendFrom 0 ns → AscendFrom 0 (with_number ns n)
number_ascends ns n small h = number_ascends_from 0 ns n (omega arith) small h

pub numbers_ascend : (ms ns : List ℕ) → AllByRecursion (λ m. m < 2 ^ 16) ms → AscendFrom 0 ns → AscendFrom 0 (fold with_number ns ms)
numbers_ascend [] ns h g = g
numbers_ascend (m ∷ ms) ns h g = numbers_ascend ms (with_number ns m) h.1 (number_ascends ns m h.0 g)

-- ---- where a search finds a number

at_least : (low : ℕ) (ns : List ℕ) → AscendFrom low ns → (k : ℕ) → k < length ns → low ≤ get_or ns k 0
at_least low [] h k lt = absurd (omega arith)
at_least low (m ∷ ms) h zero lt = h.0
at_least low (m ∷ ms) h (suc k) lt = let g : m + 1 ≤ get_or ms k 0 = at_least (m + 1) ms h.2 k (omega arith) in omega (arith, h.0)

rising : (low : ℕ) (ns : List ℕ) → AscendFrom low ns → (i j : ℕ) → i ≤ j → j < length ns → get_or ns i 0 ≤ get_or ns j 0
rising low [] h i j le lt = absurd (omega arith)
rising low (m ∷ ms) h zero zero le lt = omega arith
rising low (m ∷ ms) h zero (suc j) le lt = let g : m + 1 ≤ get_or ms j 0 = at_least (m + 1) ms h.2 j (omega arith) in omega arith
rising low (m ∷ ms) h (suc i) zero le lt = absurd (omega arith)
rising low (m ∷ ms) h (suc i) (suc j) le lt = rising (m + 1) ms h.2 i j (omega arith) (omega arith)

number_here : (m : ℕ) (ms : List ℕ) (n : ℕ) → m ≡ n → with_number (m ∷ ms) n ≡ m ∷ ms
number_here m ms n e = grind (arith, nat_tests)

number_before : (m : ℕ) (ms : List ℕ) (n : ℕ) → n < m → with_number (m ∷ ms) n ≡ n ∷ m ∷ ms
number_before m ms n lt = grind (arith, nat_tests)

number_behind : (m : ℕ) (ms : List ℕ) (n : ℕ) → m < n → with_number (m ∷ ms) n ≡ m ∷ with_number ms n
number_behind m ms n lt = grind (arith, nat_tests)

number_found : (low : ℕ) (ns : List ℕ) → AscendFrom low ns → (n i : ℕ) → i < length ns → get_or ns i 0 ≡ n → with_number ns n ≡ ns
number_found low [] h n i lt e = absurd (omega arith)
number_found low (m ∷ ms) h n zero lt e = number_here m ms n e
number_found low (m ∷ ms) h n (suc i) lt e =
    let g : m + 1 ≤ get_or ms i 0 = at_least (m + 1) ms h.2 i (omega arith) in
    number_behind m ms n (omega (arith, e)) ∙ ap (λ l. m ∷ l) (number_found (m + 1) ms h.2 n i (omega arith) e)

number_in_gap : (ns : List ℕ) (n i : ℕ) → i ≤ length ns → ((k : ℕ) → k < i → get_or ns k 0 < n)
    → ((k : ℕ) → i ≤ k → k < length ns → n < get_or ns k 0) → with_number ns n ≡ insert ns i n
number_in_gap [] n zero le before behind = refl
number_in_gap [] n (suc i) le before behind = absurd (omega arith)
number_in_gap (m ∷ ms) n zero le before behind = number_before m ms n (behind 0 (omega arith) (omega arith))
number_in_gap (m ∷ ms) n (suc i) le before behind =
    number_behind m ms n (before 0 (omega arith))
    ∙ ap (λ l. m ∷ l) (number_in_gap ms n i (omega arith) (λ k lt. before (suc k) (omega arith)) (λ k low lt. behind (suc k) (omega arith) (omega arith)))

-- what a search answers
pub record IsPlaced (ns : List ℕ) (n : ℕ) (r : Result ℕ ℕ) : Type 0 where
  pub found : OnOk r (with_number ns n ≡ ns)
  pub range : IfErr r (λ at. at ≤ length ns)
  pub absent : IfErr r (λ at. with_number ns n ≡ insert ns at n)

pub number_placed : (ns : List ℕ) → AscendFrom 0 ns → (n : ℕ) (r : Result ℕ ℕ) → IsBinarySearchResult (λ y. nat_cmp y n) ns r → IsPlaced ns n r
number_placed ns h n (Ok at) by =
    let g = searched ns n (Ok at) by (rising 0 ns h) in
    record { found = number_found 0 ns h n at g.0 g.1; range = tt; absent = tt }
number_placed ns h n (Err at) by =
    let g = searched ns n (Err at) by (rising 0 ns h) in
    record { found = tt; range = g.0; absent = number_in_gap ns n at g.0 g.1 g.2 }

-- ---- two lists of objects, one behind the other

fold-map : {A B C : Type 0} (f : C → B → C) (g : A → B) (c : C) (xs : List A) → fold f c (map g xs) ≡ fold (λ d x. f d (g x)) c xs
fold-map f g c [] = refl
fold-map f g c (x ∷ xs) = fold-map f g (f c (g x)) xs

in_two : {A B : Type 0} (f : A → Oid) (g : B → Oid) (xs : List A) (ys : List B)
    → fold with_number [] (map (λ o. o.store) (map f xs ++ map g ys)) ≡ fold (λ ns y. with_number ns (g y).store) (fold (λ ns x. with_number ns (f x).store) [] xs) ys
in_two f g xs ys =
    fold-map with_number (λ o. o.store) [] (map f xs ++ map g ys)
    ∙ fold-append (λ ns o. with_number ns o.store) [] (map f xs) (map g ys)
    ∙ ap (λ ns. fold (λ ms o. with_number ms o.store) ns (map g ys)) (fold-map (λ ns o. with_number ns o.store) f [] xs)
    ∙ fold-map (λ ns o. with_number ns o.store) g (fold (λ ns x. with_number ns (f x).store) [] xs) ys

pub stores_in_two : (parts : Parts) → stores_of parts ≡ fold (λ ns c. with_number ns c.0.store) (fold (λ ns t. with_number ns t.0.store) [] parts.touched) parts.creates
stores_in_two parts = in_two (λ t. t.0) (λ c. c.0) parts.touched parts.creates

-- ---- how many

length_number : (ns : List ℕ) (n : ℕ) → length (with_number ns n) ≤ length ns + 1
length_number [] n = omega arith
length_number (m ∷ ms) n =
    let rest = length_number ms n in
    elim (nat_lt n m) as (λ b. length (if b then n ∷ m ∷ ms else (if n == m then m ∷ ms else m ∷ with_number ms n)) ≤ suc (length ms) + 1) [
      | true ↦ omega arith
      | false ↦ elim (n == m) as (λ b. length (if b then m ∷ ms else m ∷ with_number ms n) ≤ suc (length ms) + 1) [
        | true ↦ omega arith
        | false ↦ omega (arith, rest)
      ]
    ]

length_numbers : (ms ns : List ℕ) → length (fold with_number ns ms) ≤ length ns + length ms
length_numbers [] ns = omega arith
length_numbers (m ∷ ms) ns =
    let all = length_numbers ms (with_number ns m) in
    let one = length_number ns m in
    omega (arith, all, one)

pub length_stores : (parts : Parts) → length (stores_of parts) ≤ length parts.touched + length parts.creates
length_stores parts =
    let all = length_numbers (map (λ o. o.store) (touched_names parts ++ map (λ c. c.0) parts.creates)) [] in
    let many = simp (length-map, length-append) at all in
    omega (arith, many)

pub stores_are_few : (parts : Parts) → KeepsParts parts → AscendFrom 0 (stores_of parts) → AreStores (stores_of parts)
stores_are_few parts keeps h = record { count = omega (arith, length_stores parts, keeps.touched, keeps.creates); ascend = h }

pub stores_ascend : (parts : Parts) → AreAtNodes parts → AscendFrom 0 (stores_of parts)
stores_ascend parts nodes =
    numbers_ascend (map (λ o. o.store) (touched_names parts ++ map (λ c. c.0) parts.creates)) []
    (all_map (λ s. s < 2 ^ 16) (λ o. o.store) (touched_names parts ++ map (λ c. c.0) parts.creates)
    (all_append (λ o. o.store < 2 ^ 16) (touched_names parts) (map (λ c. c.0) parts.creates)
    (all_map (λ o. o.store < 2 ^ 16) (λ t. t.0) parts.touched nodes.touched)
    (all_map (λ o. o.store < 2 ^ 16) (λ c. c.0) parts.creates nodes.creates)))
    tt
