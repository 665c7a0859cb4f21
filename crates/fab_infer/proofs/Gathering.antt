-- What flows to holes, gathered in parts.
use Rattle.std.proofs.Common.{◌≡◌, ℕ, ◌<◌, ◌≤◌, nat_lt, Bool, true, false, if◌then◌else◌, List, [], ◌∷◌, ◌++◌, length, refl, sym, ap, ◌∙◌, arith, All}
use Rattle.std.proofs.lemmas.List.{append-nil, append_assoc}
use Rattle.std.proofs.lemmas.List.Elements.{All-nil, All-cons}
use Rattle.fab_holes.specs.Flowing.{all_to, only}
use Rattle.fab_holes.proofs.Choosing.{lt_true, lt_false}

module _ (n : ℕ) where
  -- these and, behind them, those of the others that go to holes
  abbrev pub with_flows : List (ℕ × ℕ) → List (ℕ × ℕ) → List (ℕ × ℕ)
  with_flows out ps = out ++ only n ps

  only_parts : (ps qs : List (ℕ × ℕ)) → only n (ps ++ qs) ≡ only n ps ++ only n qs
  only_parts [] qs = refl
  only_parts (p ∷ ps) qs =
      ap (λ (l : List (ℕ × ℕ)). (if nat_lt p.1 n then [] else p ∷ []) ++ l) (only_parts ps qs)
      ∙ sym (append_assoc (if nat_lt p.1 n then [] else p ∷ []) (only n ps) (only n qs))

  pub in_parts : (out ps qs : List (ℕ × ℕ)) → with_flows out (ps ++ qs) ≡ with_flows (with_flows out ps) qs
  in_parts out ps qs = ap (λ (l : List (ℕ × ℕ)). out ++ l) (only_parts ps qs) ∙ sym (append_assoc out (only n ps) (only n qs))

  pub in_none : (out : List (ℕ × ℕ)) → with_flows out [] ≡ out
  in_none out = append-nil out

  only_declared : (from : List ℕ) (to : ℕ) → to < n → only n (all_to from to) ≡ []
  only_declared [] to h = refl
  only_declared (l ∷ ls) to h = (λ i. (if lt_true to n h i then [] else (l, to) ∷ []) ++ only_declared ls to h i)

  -- what flows to a declared label is left out
  pub to_declared : (out : List (ℕ × ℕ)) (from : List ℕ) (to : ℕ) → to < n → with_flows out (all_to from to) ≡ out
  to_declared out from to h = ap (λ (l : List (ℕ × ℕ)). out ++ l) (only_declared from to h) ∙ append-nil out

  -- what flows to a hole is told
  pub to_hole : (out : List (ℕ × ℕ)) (from to : ℕ) → n ≤ to → with_flows out ((from, to) ∷ []) ≡ out ++ (from, to) ∷ []
  to_hole out from to h = ap (λ (b : Bool). out ++ ((if b then [] else (from, to) ∷ []) ++ [])) (lt_false to n h)

  pub from_none : (out : List (ℕ × ℕ)) (from : List ℕ) (to : ℕ) → length from ≡ 0 → out ≡ with_flows out (all_to from to)
  from_none out [] to e = sym (append-nil out)
  from_none out (l ∷ ls) to e = absurd (omega (arith, e))

  -- each of those goes to a hole
  pub all_to_holes : (ps : List (ℕ × ℕ)) → All (λ p. n ≤ p.1) (only n ps)
  all_to_holes [] = All-nil (λ p. n ≤ p.1)
  all_to_holes (p ∷ ps) = by (nat_lt p.1 n) refl (all_to_holes ps)
    where
      by : (b : Bool) → nat_lt p.1 n ≡ b → All (λ (q : ℕ × ℕ). n ≤ q.1) (only n ps) → All (λ (q : ℕ × ℕ). n ≤ q.1) ((if b then [] else p ∷ []) ++ only n ps)
      by true e rest = rest
      by false e rest = All-cons (λ q. n ≤ q.1) p (only n ps) (search (arith, e)) rest
