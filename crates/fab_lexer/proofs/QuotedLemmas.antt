-- What the digits in quotation marks stand for.
use Rattle.std.proofs.Common.{◌≡◌, ℕ, suc, ◌+◌, ◌*◌, ◌-◌, ◌≤◌, List, [], ◌∷◌, ◌++◌, length, take, drop, get_or, sym, ap, ◌∙◌, subst, arith, append_assoc}
use Rattle.std.specs.List.{AllPass}
use Rattle.fab_base.specs.Tokens.{bytes_of, hex_value, is_hex_digit}
use Rattle.fab_lexer.proofs.PieceLemmas.{from_here}

-- the bytes so far, and the digits that are left
pub record Valuing (digits rest found : List ℕ) : Type 0 where
  pub passes : AllPass is_hex_digit rest
  pub values : found ++ bytes_of rest ≡ bytes_of digits

valued : {digits rest found : List ℕ} (h l : ℕ) (new : List ℕ) → Valuing digits rest found → 2 ≤ length rest → h ≡ hex_value (get_or rest 0 0) → l ≡ hex_value (get_or rest 1 0)
    → new ≡ found ++ (16 * h + l) ∷ [] → Valuing digits (drop 2 rest) new
valued {rest = []} h l new r some e f push = absurd (omega (arith, some))
valued {rest = a ∷ []} h l new r some e f push = absurd (omega (arith, some))
valued {rest = a ∷ b ∷ more} {found = found} h l new r some e f push = record {
  passes = λ k d i. r.passes (suc (suc k)) d (omega (arith, i));
  values =
      ap (λ z. z ++ bytes_of more) push ∙ append_assoc found _ (bytes_of more) ∙ ap (λ z. found ++ z ∷ bytes_of more) (both h l (hex_value a) (hex_value b) e f) ∙ r.values;
}
  where
    both : (h l i j : ℕ) → h ≡ i → l ≡ j → 16 * h + l ≡ 16 * i + j
    both h l i j e f = cc

-- two digits more
pub next_pair : {digits rest found : List ℕ} (h l : ℕ) (new : List ℕ) → Valuing digits rest found → 2 ≤ length rest → h ≡ hex_value (get_or rest 0 0) → l ≡ hex_value (get_or rest 1 0)
    → new ≡ found ++ (16 * h + l) ∷ [] → Valuing digits (take (length rest - 2) (drop 2 rest)) new
next_pair {digits = digits} {rest = rest} h l new r some e f push = subst (λ z. Valuing digits z new) (sym (from_here rest 2)) (valued h l new r some e f push)
