-- Worked examples of what nodes can't have influenced: h1 acts for nobody, and w1 for A.
use Rattle.std.proofs.Common.{◌≡◌, ℕ, zero, suc, ◌<◌, Bool, false, ◌||◌, ◌==◌, List, [], ◌∷◌, Some, None, length, refl, sym, ap, ◌∙◌, subst, arith, lit<, true≢false}
use Rattle.std.specs.Prelude.{◌↔◌, Contains, IsBitSet, IsTrue, slice_get}
use Rattle.std.proofs.lemmas.Bool.{ne_eqb}
use Rattle.std.proofs.lemmas.List.Elements.{All-from_recursion}
use Rattle.fab_base.specs.Labels.{ActsForOne}
use Rattle.fab_base.specs.Principals.{ActsFor}
use Rattle.fab_tree.specs.declared.resolved.Class.{Class}
use Rattle.fab_tree.specs.declared.resolved.Method.{Method}
use Rattle.fab_language.specs.Flows.{delegations_of}
use Rattle.fab_labelling.specs.Readers.{Excludes, IsNode, IsWriter, label_at, principal_of}
use Rattle.fab_trusted.specs.Trusts.{IsTrustedBy}
use Rattle.fab_trusted.proofs.Box.{bundle, classes}

-- the labels T and Q, and the class of the vault
abbrev pub trusts : ℕ → Bool
trusts l = (l == 0) || (l == 3)

abbrev pub keeps : ℕ → Bool
keeps class = class == 0

abbrev pairs : List (ℕ × ℕ)
pairs = (1, 0) ∷ (2, 0) ∷ []

declared_is : (p q : ℕ) → Contains pairs (p, q) → p < 3
declared_is p q (zero, within, e) = let first : (ℕ × ℕ) → ℕ = λ w. w.0 in let is : 1 ≡ p = ap first e in omega (arith, is)
declared_is p q (suc zero, within, e) = let first : (ℕ × ℕ) → ℕ = λ w. w.0 in let is : 2 ≡ p = ap first e in omega (arith, is)
declared_is p q (suc (suc k), within, e) = absurd (omega (arith, within))

module _ (m : Method) where
  -- h1 is the principal 3, and w1 the principal 1
  pub h_alone : ¬ ActsFor (delegations_of (bundle m)) 3 0
  h_alone ([], h) = h
  h_alone (x ∷ [], h) = let same : ◌≡◌ {A = ℕ} 3 0 = h.1 in omega (arith, same)
  h_alone (x ∷ y ∷ rest, h) = let few : 3 < 3 = declared_is 3 y h.1.0 in omega (arith, few)

  pub w_for_a : ActsFor (delegations_of (bundle m)) 1 0
  w_for_a = (1 ∷ 0 ∷ [], (refl, ((0, lit< tt, refl), refl)))

  past_all : (n : ℕ) → 2 < n → principal_of (bundle m) n ≡ 4
  past_all n past = rw (ne_eqb n 0 (λ e. omega (arith, e, past)), ne_eqb n 1 (λ e. omega (arith, e, past)), ne_eqb n 2 (λ e. omega (arith, e, past))) refl

  no_node : (n : ℕ) → ¬ IsNode (bundle m) (suc (suc (suc n)))
  no_node n node = omega (arith, node, past_all (suc (suc (suc n))) (omega arith))

  -- of the nodes, h1 is the number 2
  pub of_h : (P : ℕ → Type 0) → ¬ P 3 → (n : ℕ) → IsBitSet 4 n → IsNode (bundle m) n → ¬ P (principal_of (bundle m) n)
  of_h P none zero bit node = absurd (bit refl)
  of_h P none (suc zero) bit node = absurd (bit refl)
  of_h P none (suc (suc zero)) bit node = none
  of_h P none (suc (suc (suc n))) bit node = absurd (no_node n node)

  -- it hasn't influenced what A alone may have, and may have influenced what anybody may
  no_writer : ¬ ActsForOne (delegations_of (bundle m)) 3 (0 ∷ [])
  no_writer (zero, q, within, is, acts) = h_alone (subst (λ (z : ℕ). ActsFor (delegations_of (bundle m)) 3 z) (sym is) acts)
  no_writer (suc k, q, within, is, acts) = absurd (omega (arith, within))

  abbrev Writes : ℕ → ℕ → Type 0
  Writes l p = IsWriter (delegations_of (bundle m)) (label_at (bundle m) l) p

  excludes_t : Excludes (bundle m) (delegations_of (bundle m)) 4 (label_at (bundle m) 0)
  excludes_t = of_h (Writes 0) (λ writes. no_writer (writes 0 (record { owner = 0; others = [] }) (lit< tt)))

  excludes_q : Excludes (bundle m) (delegations_of (bundle m)) 4 (label_at (bundle m) 3)
  excludes_q = of_h (Writes 3) (λ writes. no_writer (writes 0 (record { owner = 0; others = [] }) (lit< tt)))

  not_p : ¬ Excludes (bundle m) (delegations_of (bundle m)) 4 (label_at (bundle m) 1)
  not_p h = h 2 (λ e. omega (arith, e)) (lit< tt) (λ k x within. absurd (omega (arith, within)))

  not_s : ¬ Excludes (bundle m) (delegations_of (bundle m)) 4 (label_at (bundle m) 2)
  not_s h = h 2 (λ e. omega (arith, e)) (lit< tt) (λ k x within. absurd (omega (arith, within)))

  one_class : (c d : Class) → Some c ≡ Some d → c ≡ d
  one_class c d e = cc

  trusted_from_h : IsTrustedBy (bundle m) 4 trusts keeps
  trusted_from_h = record { labels = label; classes = class; absent = no_class }
    where
      label : (l : ℕ) → IsTrue (trusts l) ↔ ((l < length (bundle m).labels) × Excludes (bundle m) (delegations_of (bundle m)) 4 (label_at (bundle m) l))
      label zero = (λ i. (lit< tt, excludes_t), λ h. refl)
      label (suc zero) = (λ i. absurd (true≢false (sym i)), λ h. absurd (not_p h.1))
      label (suc (suc zero)) = (λ i. absurd (true≢false (sym i)), λ h. absurd (not_s h.1))
      label (suc (suc (suc zero))) = (λ i. (lit< tt, excludes_q), λ h. refl)
      label (suc (suc (suc (suc l)))) = (λ i. absurd (true≢false (sym i ∙ past)), λ h. let few = h.0 in absurd (omega (arith, few)))
        where
          past : trusts (suc (suc (suc (suc l)))) ≡ false
          past = rw (ne_eqb (suc (suc (suc (suc l)))) 0 (λ e. omega (arith, e)), ne_eqb (suc (suc (suc (suc l)))) 3 (λ e. omega (arith, e))) refl

      class : (n : ℕ) (c : Class) → slice_get classes n ≡ Some c → keeps n ≡ trusts c.label.number
      class zero c e = ap (λ (x : Class). trusts x.label.number) (one_class _ c e)
      class (suc zero) c e = ap (λ (x : Class). trusts x.label.number) (one_class _ c e)
      class (suc (suc n)) c e = absurd (cc)

      no_class : (n : ℕ) → slice_get classes n ≡ None → keeps n ≡ false
      no_class zero e = absurd (cc)
      no_class (suc n) e = ne_eqb (suc n) 0 (λ e. omega (arith, e))

  not_from_w : ¬ IsTrustedBy (bundle m) 1 trusts keeps
  not_from_w h = ((h.labels 0).0 refl).1 0 (λ e. omega (arith, e)) (lit< tt) writes
    where
      writes : Writes 0 1
      writes = All-from_recursion (λ policy. ActsForOne (delegations_of (bundle m)) 1 (policy.owner ∷ policy.others)) (label_at (bundle m) 0).integ
          ((0, 0, lit< tt, refl, w_for_a), tt)
