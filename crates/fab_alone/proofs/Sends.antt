-- What is sent to each participant: one message each, since each stands once among them.
use Rattle.std.proofs.Common.{◌≡◌, inl, inr, ℕ, suc, ◌<◌, ◌≤◌, List, [], ◌∷◌, ◌++◌, map, fold, true, false, ◌==◌, nat_lt, if◌then◌else◌}
use Rattle.std.proofs.Common.{refl, sym, ap, ◌∙◌, arith}
use Rattle.std.specs.List.{filter}
use Rattle.std.proofs.lemmas.Bool.{eq-eqb, ne_eqb}
use Rattle.std.proofs.lemmas.Bool.Decides.{nat_tests}
use Rattle.fab_base.specs.declared.message.Message.{Message}
use Rattle.fab_base.specs.MessageSpelling.{spelled}
use Rattle.fab_protocol.specs.declared.parts.Parts.{Parts}
use Rattle.fab_protocol.specs.Parts.{stores_of, touched_names, with_number}
use Rattle.fab_integrity.proofs.Invariant.{In}
use Rattle.fab_integrity.proofs.Transport.{bytes_for}

-- ---- numbers that rise

abbrev Above : ℕ → List ℕ → Type 0
Above low [] = Unit {0}
Above low (m ∷ ms) = (low ≤ m) × Above (suc m) ms

above_one : (low : ℕ) (ns : List ℕ) (n : ℕ) → low ≤ n → Above low ns → Above low (with_number ns n)
above_one low [] n l h = (l, tt)
above_one low (m ∷ ms) n l h =
    elim (nat_lt n m) as (λ b. nat_lt n m ≡ b → Above low (if b then n ∷ m ∷ ms else (if n == m then m ∷ ms else m ∷ with_number ms n))) [
      | true ↦ λ e. (l, (below e, h.1))
      | false ↦ λ e. elim (n == m) as (λ b. (n == m) ≡ b → Above low (if b then m ∷ ms else m ∷ with_number ms n)) [
        | true ↦ λ f. h
        | false ↦ λ f. (h.0, above_one (suc m) ms n (above e f) h.1)
      ] refl
    ] refl
  where
    below : nat_lt n m ≡ true → suc n ≤ m
    below e = grind (arith, nat_tests)

    above : nat_lt n m ≡ false → (n == m) ≡ false → suc m ≤ n
    above e f = grind (arith, nat_tests)

above_all : (ms ns : List ℕ) → Above 0 ns → Above 0 (fold with_number ns ms)
above_all [] ns h = h
above_all (m ∷ ms) ns h = above_all ms (with_number ns m) (above_one 0 ns m (omega arith) h)

stores_rise : (parts : Parts) → Above 0 (stores_of parts)
stores_rise parts = above_all (map (λ o. o.store) (touched_names parts ++ map (λ c. c.0) parts.creates)) [] tt

not_above : (low x : ℕ) (ns : List ℕ) → Above low ns → x < low → In x ns → ⊥
not_above low x [] h low_x i = i
not_above low x (m ∷ ms) h low_x (inl e) = absurd (omega (arith, h.0, low_x, e))
not_above low x (m ∷ ms) h low_x (inr i) = not_above (suc m) x ms h.1 (omega (arith, h.0, low_x)) i

-- ---- a message to each

-- to others nothing is sent
pub none_each : (f : ℕ → Message) (ss : List ℕ) (x : ℕ) → (In x ss → ⊥) → bytes_for x (map (λ s. (s, f s)) ss) ≡ []
none_each f [] x out = refl
none_each f (s ∷ ss) x out =
    let rest : List (ℕ × Message) = filter (λ (y : ℕ × Message). y.0 == x) (map (λ s. (s, f s)) ss) in
    ap (λ b. map (λ (y : ℕ × Message). spelled y.1) (if b then (s, f s) ∷ rest else rest)) (ne_eqb s x (λ e. out (inl (sym e))))
    ∙ none_each f ss x (λ i. out (inr i))

one_from : (f : ℕ → Message) (low : ℕ) (ss : List ℕ) → Above low ss → (x : ℕ) → In x ss → bytes_for x (map (λ s. (s, f s)) ss) ≡ spelled (f x) ∷ []
one_from f low [] h x i = absurd i
one_from f low (s ∷ ss) h x (inl e) =
    let rest : List (ℕ × Message) = filter (λ (y : ℕ × Message). y.0 == x) (map (λ s. (s, f s)) ss) in
    ap (λ b. map (λ (y : ℕ × Message). spelled y.1) (if b then (s, f s) ∷ rest else rest)) (eq-eqb s x (sym e))
    ∙ ap (λ zs. spelled (f s) ∷ zs) (none_each f ss x (λ i. not_above (suc s) x ss h.1 (omega (arith, e)) i))
    ∙ ap (λ z. spelled (f z) ∷ []) (sym e)
one_from f low (s ∷ ss) h x (inr i) =
    let rest : List (ℕ × Message) = filter (λ (y : ℕ × Message). y.0 == x) (map (λ s. (s, f s)) ss) in
    ap (λ b. map (λ (y : ℕ × Message). spelled y.1) (if b then (s, f s) ∷ rest else rest)) (ne_eqb s x (λ e. not_above (suc s) x ss h.1 (omega (arith, e)) i))
    ∙ one_from f (suc s) ss h.1 x i

-- to each participant the one for it
pub one_each : (f : ℕ → Message) (parts : Parts) (x : ℕ) → In x (stores_of parts)
    → bytes_for x (map (λ s. (s, f s)) (stores_of parts)) ≡ spelled (f x) ∷ []
one_each f parts x i = one_from f 0 (stores_of parts) (stores_rise parts) x i
