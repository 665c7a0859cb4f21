-- Numbers within bounds keep to what readers keep to.
use Rattle.std.proofs.Common.{◌≡◌, ℕ, ◌+◌, ◌-◌, ◌*◌, ◌/◌, ◌%◌, ◌<◌, ◌≤◌, List, [], ◌∷◌, ◌++◌, Ok, Err, refl, sym, ap, subst, ◌∙◌, arith, inl, inr}
use Rattle.fab_base.specs.FieldSpelling.{two_bytes}
use Rattle.fab_wire.proofs.ReaderLaws.{IsBytes, Reads, Stops, ok_is}
use Rattle.fab_wire.proofs.NumberLaws.{two_are_bytes, both_hold, two_bytes_again, two_bytes_of, first_is, both_are}
use Rattle.fab_journal.specs.EntryReading.{between_at}

abbrev IsWithin : ℕ → ℕ → ℕ → Type 0
IsWithin low high n = (low ≤ n) × (n ≤ high)

module _ (low high : ℕ) (ordered : low ≤ high) (small : high < 65536) where
  -- the least number within the bounds that begins so
  least : (b : ℕ) → low ≤ b * 256 + 255 → b * 256 ≤ high → b < 256
      → (r : ℕ) × IsWithin low high (b * 256 + r) × (two_bytes (b * 256 + r) ≡ b ∷ r ∷ [])
  least b l h lt = (low - b * 256, (omega arith, omega arith), two_bytes_of b (low - b * 256) lt (omega arith))

  found : (bytes : List ℕ) (x : ℕ) (rest : List ℕ) → IsBytes bytes → between_at low high bytes ≡ Ok (x, rest) → (bytes ≡ two_bytes x ++ rest) × IsWithin low high x
  found [] x rest isb e = absurd cc
  found (a ∷ []) x rest isb e = elim (both_hold low (a * 256 + 255) (a * 256) high) [ inl h ↦ let f = rw h.0 at e in absurd cc | inr h ↦ let f = rw h.0 at e in absurd cc ]
  found (a ∷ b ∷ bytes) x rest isb e =
      elim (both_hold low (a * 256 + 255) (a * 256) high) [
        | inl h ↦
            elim (both_hold low (a * 256 + b) (a * 256 + b) high) [
              | inl k ↦
                  let p : (a * 256 + b, bytes) ≡ (x, rest) = ok_is (a * 256 + b, bytes) (x, rest) (sym (rw (h.0, k.0) refl) ∙ e) in
                  let text : a ∷ b ∷ bytes ≡ two_bytes (a * 256 + b) ++ bytes = ap (λ (t : List ℕ). t ++ bytes) (sym (two_bytes_of a b (isb 0) (isb 1))) in
                  subst (λ (q : ℕ × List ℕ). (a ∷ b ∷ bytes ≡ two_bytes q.0 ++ q.1) × IsWithin low high q.0) p (text, (k.1, k.2))
              | inr k ↦ let f = rw (h.0, k.0) at e in absurd cc
            ]
        | inr h ↦ let f = rw h.0 at e in absurd cc
      ]

  again : (x : ℕ) (rest : List ℕ) → IsWithin low high x → between_at low high (two_bytes x ++ rest) ≡ Ok (x, rest)
  again x rest fits =
      let is : x / 256 % 256 * 256 + x % 256 ≡ x = two_bytes_again x (omega (arith, fits.1)) in
      elim (both_hold low (x / 256 % 256 * 256 + 255) (x / 256 % 256 * 256) high) [
        | inl h ↦
            elim (both_hold low (x / 256 % 256 * 256 + x % 256) (x / 256 % 256 * 256 + x % 256) high) [
              | inl k ↦ rw (h.0, k.0) (ap (λ (n : ℕ). Ok (n, rest)) is)
              | inr k ↦ absurd (k.1 (omega (arith, is, fits.0)) (omega (arith, is, fits.1)))
            ]
        | inr h ↦ absurd (h.1 (omega (arith, is, fits.0)) (omega (arith, is, fits.1)))
      ]

  stops : (bytes : List ℕ) (left : ℕ) → IsBytes bytes → between_at low high bytes ≡ Err left → Stops two_bytes (IsWithin low high) bytes left
  stops [] left isb e = record {
    front = [];
    back = [];
    cut = refl;
    left_is = cc;
    next = low;
    next_fits = (omega arith, ordered);
    more = two_bytes low;
    begins = refl;
    bad = λ b rest tail eb. absurd cc;
  }
  stops (a ∷ []) left isb e =
      elim (both_hold low (a * 256 + 255) (a * 256) high) [
        | inl h ↦
            let f = rw h.0 at e in
            let n = least a h.1 h.2 (isb 0) in
            record {
              front = a ∷ [];
              back = [];
              cut = refl;
              left_is = cc;
              next = a * 256 + n.0;
              next_fits = n.1;
              more = n.0 ∷ [];
              begins = n.2;
              bad = λ b rest tail eb. absurd cc;
            }
        | inr h ↦
            let f = rw h.0 at e in
            record {
              front = [];
              back = a ∷ [];
              cut = refl;
              left_is = cc;
              next = low;
              next_fits = (omega arith, ordered);
              more = two_bytes low;
              begins = refl;
              bad = λ b rest tail eb x after fx ex.
                  let same : a ≡ b = cc in
                  let first = first_is x b tail after (omega (arith, fx.1)) ex in
                  h.1 (omega (arith, same, first, fx.0)) (omega (arith, same, first, fx.1));
            }
      ]
  stops (a ∷ c ∷ bytes) left isb e =
      elim (both_hold low (a * 256 + 255) (a * 256) high) [
        | inl h ↦
            elim (both_hold low (a * 256 + c) (a * 256 + c) high) [
              | inl k ↦ let f = rw (h.0, k.0) at e in absurd cc
              | inr k ↦
                  let f = rw (h.0, k.0) at e in
                  let n = least a h.1 h.2 (isb 0) in
                  record {
                    front = a ∷ [];
                    back = c ∷ bytes;
                    cut = refl;
                    left_is = cc;
                    next = a * 256 + n.0;
                    next_fits = n.1;
                    more = n.0 ∷ [];
                    begins = n.2;
                    bad = λ b rest tail eb x after fx ex.
                        let same : c ≡ b = cc in
                        let both = both_are x a b tail after (omega (arith, fx.1)) ex in
                        k.1 (omega (arith, same, both, fx.0)) (omega (arith, same, both, fx.1));
                  }
            ]
        | inr h ↦
            let f = rw h.0 at e in
            record {
              front = [];
              back = a ∷ c ∷ bytes;
              cut = refl;
              left_is = cc;
              next = low;
              next_fits = (omega arith, ordered);
              more = two_bytes low;
              begins = refl;
              bad = λ b rest tail eb x after fx ex.
                  let same : a ≡ b = cc in
                  let first = first_is x b tail after (omega (arith, fx.1)) ex in
                  h.1 (omega (arith, same, first, fx.0)) (omega (arith, same, first, fx.1));
            }
      ]

  pub between_reads : Reads (between_at low high) two_bytes (λ n. (low ≤ n) × (n ≤ high))
  between_reads = record {
    some = (low, (omega arith, ordered));
    bytes = λ n fits. two_are_bytes n;
    again = again;
    found = found;
    stops = stops;
  }
