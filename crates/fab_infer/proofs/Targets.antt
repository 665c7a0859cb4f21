-- The targets of a hole are those of the flows from it.
use Rattle.std.proofs.Common.{◌≡◌, ℕ, zero, suc, ◌+◌, ◌-◌, ◌<◌, ◌≤◌, ◌==◌, ◌&&◌, inl, inr, not, nat_lt, Bool, true, false, if◌then◌else◌, List, [], ◌∷◌, ◌++◌, length, get_or, refl, sym, ap, ◌∙◌, subst, arith, All, Contains}
use Rattle.std.specs.Prelude.{slice_set}
use Rattle.std.proofs.lemmas.Bool.{cases_eq}
use Rattle.std.proofs.lemmas.List.{append-nil}
use Rattle.std.proofs.lemmas.List.Elements.{All-head, All-tail, Contains-append_left, Contains-append_right, Contains-append_cases}
use Rattle.fab_holes.proofs.Choosing.{lt_false}
use Rattle.fab_infer.specs.Spreading.{list_at, target_of, targets_of}

module _ (n h : ℕ) where
  abbrev comes : ℕ × ℕ → Bool
  comes p = not (nat_lt p.0 n) && (p.0 - n == h)

  it_comes : (p : ℕ × ℕ) → p.0 ≡ n + h → comes p ≡ true
  it_comes p e =
      let low : nat_lt p.0 n ≡ false = lt_false p.0 n (omega (arith, e)) in
      let at : p.0 - n ≡ h = omega (arith, e) in
      ap (λ b. not b && (p.0 - n == h)) low ∙ search (arith, at)

  target_is : (p : ℕ × ℕ) → p.0 ≡ n + h → target_of n h p ≡ (p.1 - n) ∷ []
  target_is p e = ap (λ b. if b then (p.1 - n) ∷ [] else []) (it_comes p e)

  pub in_targets : (flows : List (ℕ × ℕ)) (p : ℕ × ℕ) → Contains flows p → p.0 ≡ n + h → Contains (targets_of n h flows) (p.1 - n)
  in_targets [] p (k, inside, is) e = absurd (omega (arith, inside))
  in_targets (q ∷ ps) p (zero, inside, is) e =
      let same : q ≡ p = is in
      subst (λ (z : ℕ × ℕ). Contains (target_of n h z ++ targets_of n h ps) (p.1 - n)) (sym same)
      (Contains-append_left (target_of n h p) (targets_of n h ps) (p.1 - n) (subst (λ (l : List ℕ). Contains l (p.1 - n)) (sym (target_is p e)) (0, omega arith, refl)))
  in_targets (q ∷ ps) p (suc k, inside, is) e =
      Contains-append_right (target_of n h q) (targets_of n h ps) (p.1 - n) (in_targets ps p (k, omega (arith, inside), is) e)

  from_one : (q : ℕ × ℕ) (t : ℕ) (b : Bool) → comes q ≡ b → n ≤ q.1 → Contains (if b then (q.1 - n) ∷ [] else []) t → q ≡ (n + h, n + t)
  from_one q t false e high (k, within, is) = absurd (omega (arith, within))
  from_one q t true e high (suc k, within, is) = absurd (omega (arith, within))
  from_one q t true e high (zero, within, is) =
      let to : q.1 - n ≡ t = is in
      let from : q.0 ≡ n + h = source (nat_lt q.0 n) refl in
      let at : q.1 ≡ n + t = omega (arith, to, high) in
      λ i. (from i, at i)
    where
      source : (b : Bool) → nat_lt q.0 n ≡ b → q.0 ≡ n + h
      source true f = absurd (search (arith, ap (λ z. not z && (q.0 - n == h)) (sym f) ∙ e))
      source false f = let same : (q.0 - n == h) ≡ true = ap (λ z. not z && (q.0 - n == h)) (sym f) ∙ e in search (arith, f, same)

  pub of_targets : (flows : List (ℕ × ℕ)) (t : ℕ) → All (λ p. n ≤ p.1) flows → Contains (targets_of n h flows) t → Contains flows (n + h, n + t)
  of_targets [] t all (k, within, is) = absurd (omega (arith, within))
  of_targets (q ∷ ps) t all inside = elim (Contains-append_cases (target_of n h q) (targets_of n h ps) t inside) [
    | inl here ↦ (0, omega arith, from_one q t (comes q) refl (All-head (λ p. n ≤ p.1) q ps all) here)
    | inr (k, within, is) ↦ let rest = of_targets ps t (All-tail (λ p. n ≤ p.1) q ps all) (k, within, is) in (suc rest.0, (let l = rest.1 in omega (arith, l)), rest.2)
  ]

-- one number more in one of the lists
pub put_at : (lists : List (List ℕ)) (hole t h : ℕ) (new : List ℕ) → hole < length lists → (d : List ℕ) → new ≡ get_or lists hole d ++ t ∷ [] → h < length lists
    → list_at (slice_set lists hole new) h ≡ list_at lists h ++ (if hole == h then t ∷ [] else [])
put_at [] hole t h new within d is inside = absurd (omega (arith, within))
put_at (xs ∷ lists) zero t zero new within d is inside = is
put_at (xs ∷ lists) zero t (suc h) new within d is inside =
    let none : (0 == suc h) ≡ false = search arith in
    sym (ap (λ b. list_at lists h ++ (if b then t ∷ [] else [])) none ∙ append-nil (list_at lists h))
put_at (xs ∷ lists) (suc hole) t zero new within d is inside =
    let none : (suc hole == 0) ≡ false = search arith in
    sym (ap (λ b. xs ++ (if b then t ∷ [] else [])) none ∙ append-nil xs)
put_at (xs ∷ lists) (suc hole) t (suc h) new within d is inside =
    let same : (hole == h) ≡ (suc hole == suc h) = sym (compare_suc hole h) in
    put_at lists hole t h new (omega (arith, within)) d is (omega (arith, inside)) ∙ ap (λ b. list_at lists h ++ (if b then t ∷ [] else [])) same
  where
    compare_suc : (a b : ℕ) → (suc a == suc b) ≡ (a == b)
    compare_suc a b = elim (cases_eq a b) [
      | inl e ↦ let one : (suc a == suc b) ≡ true = search (arith, e) in let two : (a == b) ≡ true = search (arith, e) in one ∙ sym two
      | inr e ↦ let one : (suc a == suc b) ≡ false = search (arith, e) in let two : (a == b) ≡ false = search (arith, e) in one ∙ sym two
    ]

-- a list that is there, and one that isn't
pub list_some : (lists : List (List ℕ)) (h : ℕ) (xs : List ℕ) → true ≡ nat_lt h (length lists) → xs ≡ get_or lists h xs → xs ≡ list_at lists h
list_some [] h xs inside e = absurd (search (arith, inside))
list_some (ys ∷ lists) zero xs inside e = e
list_some (ys ∷ lists) (suc h) xs inside e = list_some lists h xs (search (arith, inside)) e

pub list_none : (lists : List (List ℕ)) (h : ℕ) → false ≡ nat_lt h (length lists) → ◌≡◌ {A = List ℕ} [] (list_at lists h)
list_none [] h past = refl
list_none (ys ∷ lists) zero past = absurd (search (arith, past))
list_none (ys ∷ lists) (suc h) past = list_none lists h (search (arith, past))

-- lists that are empty, and one more of these
pub empty_more : (lists : List (List ℕ)) (h : ℕ) → ((k : ℕ) → list_at lists k ≡ []) → list_at (lists ++ [] ∷ []) h ≡ []
empty_more [] zero empty = refl
empty_more [] (suc h) empty = refl
empty_more (xs ∷ lists) zero empty = empty 0
empty_more (xs ∷ lists) (suc h) empty = empty_more lists h (λ k. empty (suc k))

pub list_past : (lists : List (List ℕ)) (h : ℕ) → length lists ≤ h → list_at lists h ≡ []
list_past [] h past = refl
list_past (xs ∷ lists) zero past = absurd (omega (arith, past))
list_past (xs ∷ lists) (suc h) past = list_past lists h (omega (arith, past))
