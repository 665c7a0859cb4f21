-- Totals over a list of numbers in which none stands twice, and over pairs of them.
use Rattle.std.proofs.Common.{◌≡◌, ℕ, ◌+◌, ◌*◌, ◌≤◌, List, [], ◌∷◌, length, refl, sym, subst, inl, inr, arith}
use Rattle.std.specs.List.{sum_by}
use Rattle.std.proofs.lemmas.List.Sums.{sum_by-cons}
use Rattle.fab_integrity.proofs.Invariant.{In}
use Rattle.fab_finite.proofs.Rising.{Apart}

-- ---- totals

abbrev pub total : (ℕ → ℕ) → List ℕ → ℕ
total f [] = 0
total f (n ∷ ns) = f n + total f ns

pub total_is : (f : ℕ → ℕ) (ns : List ℕ) → sum_by f ns ≡ total f ns
total_is f [] = refl
total_is f (n ∷ ns) = let p = sum_by-cons f n ns in let h = total_is f ns in omega (arith, p, h)

pub total_same : (c : ℕ) (ns : List ℕ) → total (λ n. c) ns ≡ length ns * c
total_same c [] = omega arith
total_same c (n ∷ ns) = let h = total_same c ns in omega (arith, h)

-- each with a factor in front
pub total_times : (f : ℕ → ℕ) (c : ℕ) (ns : List ℕ) → total (λ n. c * f n) ns ≡ c * total f ns
total_times f c [] = omega arith
total_times f c (n ∷ ns) = let h = total_times f c ns in omega (arith, h)

-- each with so much more
pub total_more : (f : ℕ → ℕ) (c : ℕ) (ns : List ℕ) → total (λ n. f n + c) ns ≡ total f ns + length ns * c
total_more f c [] = omega arith
total_more f c (n ∷ ns) = let h = total_more f c ns in omega (arith, h)

-- none is greater but at n, which isn't there
total_off : (f g : ℕ → ℕ) (n : ℕ) (ns : List ℕ) → (In n ns → ⊥) → ((x : ℕ) → (x ≡ n → ⊥) → g x ≤ f x) → total g ns ≤ total f ns
total_off f g n [] out less = omega arith
total_off f g n (x ∷ ns) out less =
    let here = less x (λ same. out (inl (sym same))) in let h = total_off f g n ns (λ there. out (inr there)) less in omega (arith, here, h)

-- none is greater but at n, where d is lost and c is won
pub total_at : (f g : ℕ → ℕ) (n c d : ℕ) (ns : List ℕ) → Apart ns → In n ns → ((x : ℕ) → (x ≡ n → ⊥) → g x ≤ f x) → g n + d ≤ f n + c
    → total g ns + d ≤ total f ns + c
total_at f g n c d [] apart there less here = absurd there
total_at f g n c d (x ∷ ns) apart (inl same) less here =
    let h = total_off f g n ns (subst (λ y. In y ns → ⊥) (sym same) apart.0) less in
    let a = subst (λ y. g y + d ≤ f y + c) same here in
    omega (arith, h, a)
total_at f g n c d (x ∷ ns) apart (inr there) less here =
    let h = total_at f g n c d ns apart.1 there less here in
    let a = less x (λ same. apart.0 (subst (λ y. In y ns) (sym same) there)) in
    omega (arith, h, a)

-- ---- of pairs

-- of row n all is won or lost; in the other rows nothing is greater
module _ (f g : ℕ → ℕ → ℕ) (ns : List ℕ) (apart : Apart ns) (n : ℕ) (there : In n ns) (less : (x : ℕ) → (x ≡ n → ⊥) → (y : ℕ) → g x y ≤ f x y) where
  others_less : (x : ℕ) → (x ≡ n → ⊥) → total (g x) ns ≤ total (f x) ns
  others_less x ne =
      let h = total_at (f x) (g x) n 0 0 ns apart there (λ y _. less x ne y) (let e = less x ne n in omega (arith, e)) in
      omega (arith, h)

  -- it loses one and wins c at each place
  pub row_changes : (c : ℕ) → ((y : ℕ) → g n y + 1 ≤ f n y + c) → total (λ x. total (g x) ns) ns + 1 ≤ total (λ x. total (f x) ns) ns + length ns * c
  row_changes c each =
      let more = total_more (f n) c ns in
      let h = total_at (λ y. f n y + c) (g n) n 0 1 ns apart there (λ y _. let e = each y in omega (arith, e)) (let e = each n in omega (arith, e)) in
      total_at (λ x. total (f x) ns) (λ x. total (g x) ns) n (length ns * c) 1 ns apart there others_less (omega (arith, h, more))

  -- it loses d and wins c at place m alone
  pub place_changes : (m c d : ℕ) → In m ns → ((y : ℕ) → (y ≡ m → ⊥) → g n y ≤ f n y) → g n m + d ≤ f n m + c
      → total (λ x. total (g x) ns) ns + d ≤ total (λ x. total (f x) ns) ns + c
  place_changes m c d also each here =
      total_at (λ x. total (f x) ns) (λ x. total (g x) ns) n c d ns apart there others_less (total_at (f n) (g n) m c d ns apart also each here)
