-- What `parse` says of a word, and which number it writes.
use Rattle.std.proofs.Common.{◌≡◌, ◌≢◌, ◌<◌, ◌≤◌, ◌^◌, ◌∙◌, ℕ, zero, suc, true, false, ◌||◌, ◌&&◌, ◌==◌, List, [], ◌∷◌, length, get_or, Some, None, Ok, Err, refl, sym, ap, subst, inl, inr, arith, eqb-true, nat_le, decimal, bytes_eq}
use Rattle.std.specs.Str.Parse.{AllDigits, IsNumeral, ParsesUnsigned, digits_value}
use Rattle.std.proofs.lemmas.Bool.{cases_Bool, le-leb, leb-true, and_from, and_parts, or_cases}
use Rattle.std.proofs.lemmas.Fmt.{decimal-digits_value, decimal_is_IsNumeral, first_decimal, length-decimal-le}
use Rattle.std.proofs.lemmas.Slice.Eq.{bytes_eq-Decides}
use Rattle.std.proofs.lemmas.Str.Parse.{IsNumeralModel, digit_at, numerals_by_value, parse_plain, tells_digits}
use Rattle.fab_asked.specs.Numbers.{has_front, number_of}
use Rattle.fab_asked.specs.Words.{begins_with_dash}

own : IsNumeralModel (AllDigits 10) (digits_value 10)
own = numerals_by_value (AllDigits 10) tells_digits

-- digits without zeros in front, of a number that isn't too great
pub is_number : (word : List ℕ) → AllDigits 10 word → 0 < length word → (get_or word 0 0 ≡ 48 → length word ≡ 1) → digits_value 10 word < 2 ^ 32 → number_of word ≡ Some (digits_value 10 word)
is_number word digits some front small =
    let back : decimal (digits_value 10 word) ≡ word = decimal-digits_value own word digits some front (omega (arith, small)) in
    let here = (bytes_eq-Decides (decimal (digits_value 10 word)) word).1 back in
    let fits = le-leb (digits_value 10 word) 4294967295 (omega (arith, small)) in
    rw (and_from (nat_le (digits_value 10 word) 4294967295) (bytes_eq (decimal (digits_value 10 word)) word) fits here) refl

-- a word that no number up to the greatest has for its text
pub no_number : (word : List ℕ) → ((n : ℕ) → n < 2 ^ 32 → word ≡ decimal n → n ≡ digits_value 10 word → ⊥) → number_of word ≡ None
no_number word none = elim (cases_Bool (nat_le (digits_value 10 word) 4294967295 && bytes_eq (decimal (digits_value 10 word)) word)) [
  | inl passes ↦ (let h = and_parts (nat_le (digits_value 10 word) 4294967295) (bytes_eq (decimal (digits_value 10 word)) word) passes in
      let small : digits_value 10 word ≤ 4294967295 = leb-true (digits_value 10 word) 4294967295 h.0 in
      absurd (none (digits_value 10 word) (omega (arith, small)) (sym ((bytes_eq-Decides (decimal (digits_value 10 word)) word).0 h.1)) refl))
  | inr fails ↦ rw fails refl
]

-- the text of a number is digits
digits_of : (word : List ℕ) (n : ℕ) → n < 2 ^ 32 → word ≡ decimal n → IsNumeral 10 word
digits_of word n small is = subst (IsNumeral 10) (sym is) (decimal_is_IsNumeral n (omega (arith, small))).0

-- a word whose first byte is below the digits writes no number
no_first : (b : ℕ) (bs : List ℕ) → b < 48 → number_of (b ∷ bs) ≡ None
no_first b bs low = no_number (b ∷ bs) (λ n small is same.
    let digit = digit_at (b ∷ bs) 0 (digits_of (b ∷ bs) n small is).1 (omega arith) in
    absurd (omega (arith, digit.0, low)))

pub dashed_number : (word : List ℕ) → begins_with_dash word ≡ true → number_of word ≡ None
dashed_number [] e = cc
dashed_number (b ∷ bs) e = no_first b bs (let is : b ≡ 45 = eqb-true b 45 e in omega (arith, is))

-- ---- what the front of a word says

no_plus : (word : List ℕ) → has_front word ≡ false → get_or word 0 0 ≢ 43
no_plus [] e is = cc
no_plus (b ∷ []) e is = let never : (43 == 43) ≡ false = subst (λ x. (x == 43) ≡ false) is e in cc
no_plus (b ∷ c ∷ cs) e is = let never : (43 == 43 || 43 == 48) ≡ false = subst (λ x. (x == 43 || x == 48) ≡ false) is e in cc

no_zeros : (word : List ℕ) → 0 < length word → has_front word ≡ false → get_or word 0 0 ≡ 48 → length word ≡ 1
no_zeros [] some e is = absurd (omega (arith, some))
no_zeros (b ∷ []) some e is = refl
no_zeros (b ∷ c ∷ cs) some e is = let same : (48 == 43 || 48 == 48) ≡ false = subst (λ x. (x == 43 || x == 48) ≡ false) is e in cc

zeros : (c : ℕ) (cs : List ℕ) → number_of (48 ∷ c ∷ cs) ≡ None
zeros c cs = no_number (48 ∷ c ∷ cs) (λ n small is same. at_all n small is)
  where
    at_all : (n : ℕ) → n < 2 ^ 32 → 48 ∷ c ∷ cs ≡ decimal n → ⊥
    at_all zero small is =
        let one : length (decimal 0) ≤ 1 = length-decimal-le 1 0 (omega arith) (omega arith) (omega arith) in
        let short : length (48 ∷ c ∷ cs) ≡ length (decimal 0) = ap length is in
        omega (arith, one, short)
    at_all (suc n) small is =
        let above = first_decimal (suc n) (omega arith) (omega (arith, small)) in
        let first : get_or (decimal (suc n)) 0 0 ≡ 48 = sym (ap (λ ds. get_or ds 0 0) is) in
        omega (arith, above, first)

pub fronted : (word : List ℕ) → has_front word ≡ true → None ≡ number_of word
fronted [] e = cc
fronted (b ∷ []) e = sym (no_first b [] (let is : b ≡ 43 = eqb-true b 43 e in omega (arith, is)))
fronted (b ∷ c ∷ cs) e = elim (or_cases (b == 43) (b == 48) e) [
  | inl plus ↦ sym (no_first b (c ∷ cs) (let is : b ≡ 43 = eqb-true b 43 plus in omega (arith, is)))
  | inr zero_first ↦ sym (subst (λ x. number_of (x ∷ c ∷ cs) ≡ None) (sym (eqb-true b 48 zero_first)) (zeros c cs))
]

-- ---- what `parse` says of it

abbrev IsPlain : List ℕ → Type 0
IsPlain word = AllDigits 10 word × (0 < length word) × (digits_value 10 word < 2 ^ 32)

pub parsed : (word : List ℕ) (n : ℕ) → has_front word ≡ false → ParsesUnsigned {E = ℕ} 32 10 word (Ok n) → Some n ≡ number_of word
parsed word n e h =
    let p : IsPlain word × (n ≡ digits_value 10 word) = parse_plain own {E = ℕ} 32 word (Ok n) h (no_plus word e) in
    ap Some p.1 ∙ sym (is_number word p.0.0 p.0.1 (no_zeros word p.0.1 e) p.0.2)

pub unparsed : (word : List ℕ) → has_front word ≡ false → ParsesUnsigned {E = ℕ} 32 10 word (Err 0) → None ≡ number_of word
unparsed word e h =
    let never : IsPlain word → ⊥ = parse_plain own {E = ℕ} 32 word (Err 0) h (no_plus word e) in
    sym (no_number word (λ n small text same.
    let digits = digits_of word n small text in
    never (digits.1, digits.0, subst (λ m. m < 2 ^ 32) same small)))
