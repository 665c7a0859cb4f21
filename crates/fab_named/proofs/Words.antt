-- The tokens of a text: what a name says is a word that is no keyword, and what stands in quotation marks is bytes.
use Rattle.std.proofs.Common.{◌≡◌, ◌≢◌, ℕ, ◌+◌, ◌-◌, ◌%◌, ◌<◌, Bool, true, false, cond, ◌&&◌, ◌||◌, ◌==◌, nat_le, nat_eq, List, [], ◌∷◌, length, drop, Option, Some, None, codes, refl, sym, ap, ◌∙◌, subst, take_while, arith}
use Rattle.std.specs.List.{AllByRecursion, starts_with, list_all}
use Rattle.std.specs.Char.{is_ascii_digit}
use Rattle.std.proofs.lemmas.Bool.{and_from, and_parts, leb-true}
use Rattle.std.proofs.lemmas.List.Sums.{take_while-cons}
use Rattle.fab_base.specs.declared.token.Mark.{Mark}
use Rattle.fab_base.specs.declared.token.Mark.TheVariants as m
use Rattle.fab_base.specs.declared.token.Kind.{Kind}
use Rattle.fab_base.specs.declared.token.Kind.TheVariants as k
use Rattle.fab_base.specs.declared.token.Token.{Token}
use Rattle.fab_base.specs.declared.token.Piece.TheVariants as p
use Rattle.fab_base.specs.Tokens.{stands, unfit, is_space, is_word_byte, is_hex_digit, hex_value, bytes_of, digits_at, keyword_of, keyword_or, is_name_text, is_numeral, number_kind, value_from, word_kind, word_at, line_len, spelled, front_of, sign_piece, sign_at, quoted_at, front_at, Lexes, over, blank, token}
use Rattle.fab_reports.specs.Lines.{IsWord, AreBytes}

-- ---- the longest run at the front

all_taken : {A : Type 0} (test : A → Bool) (xs : List A) → list_all test (take_while test xs) ≡ true
all_taken test [] = refl
all_taken {A} test (x ∷ xs) = ap (list_all test) (take_while-cons test x xs) ∙ by (test x) refl (all_taken test xs)
  where
    by : (b : Bool) → test x ≡ b → list_all test (take_while test xs) ≡ true → list_all test (cond b (x ∷ take_while test xs) []) ≡ true
    by true e later = and_from (test x) (list_all test (take_while test xs)) e later
    by false e later = refl

-- ---- what a token says

-- a name is a word and no keyword, and bytes are below 256
abbrev pub IsWell : Kind → Type 0
IsWell (k.Name x) = IsWord x × (keyword_of x ≡ None)
IsWell (k.Number n) = Unit {0}
IsWell k.Least = Unit {0}
IsWell (k.Bytes x) = AreBytes x
IsWell (k.Fixed x) = Unit {0}

abbrev pub IsWellToken : Token → Type 0
IsWellToken t = IsWell t.kind

-- `null` is a keyword
pub not_null : (x : List ℕ) → keyword_of x ≡ None → x ≢ codes "null"
not_null x e same =
    let none : Some m.Null ≡ None = sym (ap keyword_of same) ∙ e in
    absurd (cc)

-- ---- words

well_number : (n : ℕ) (kind : Kind) → number_kind n ≡ Some kind → IsWell kind
well_number n kind e = by (nat_le n 2147483647) (n == 2147483648) e
  where
    by : (b c : Bool) → cond b (Some (k.Number n)) (cond c (Some k.Least) None) ≡ Some kind → IsWell kind
    by true c h = let same : k.Number n ≡ kind = cc in subst IsWell same tt
    by false true h = let same : k.Least ≡ kind = cc in subst IsWell same tt
    by false false h = absurd (cc)

well_word : (word : List ℕ) (kind : Kind) → list_all is_word_byte word ≡ true → word_kind word ≡ Some kind → IsWell kind
well_word word kind letters e = by (keyword_of word) refl (is_name_text word) refl (is_numeral word) e
  where
    by : (o : Option Mark) → keyword_of word ≡ o → (b : Bool) → is_name_text word ≡ b → (c : Bool)
        → keyword_or o (cond b (Some (k.Name word)) (cond c (number_kind (value_from 0 word)) None)) ≡ Some kind → IsWell kind
    by (Some x) f b g c h = let same : k.Fixed x ≡ kind = cc in subst IsWell same tt
    by None f true g c h =
        let same : k.Name word ≡ kind = cc in
        subst IsWell same (and_from (list_all is_word_byte word) (is_name_text word) letters g, f)
    by None f false g true h = well_number (value_from 0 word) kind h
    by None f false g false h = absurd (cc)

spelled_back : (o : Option Kind) (n len : ℕ) (kind : Kind) → front_of (spelled o n) ≡ stands (p.Spelled kind len) → o ≡ Some kind
spelled_back None n len kind e = absurd (cc)
spelled_back (Some x) n len kind e = cc

well_sign : (o : Option Mark) (len : ℕ) (kind : Kind) → front_of (sign_piece o) ≡ stands (p.Spelled kind len) → IsWell kind
well_sign None len kind e = absurd (cc)
well_sign (Some x) len kind e = let same : k.Fixed x ≡ kind = cc in subst IsWell same tt

-- ---- bytes in quotation marks

small_digit : (b : ℕ) → is_hex_digit b ≡ true → hex_value b < 16
small_digit b e = by (is_ascii_digit b) refl e
  where
    by : (c : Bool) → is_ascii_digit b ≡ c → (c || (nat_le 97 b && nat_le b 102)) ≡ true → cond c (b - 48) (b - 87) < 16
    by true f h =
        let most = leb-true b 57 (and_parts (nat_le 48 b) (nat_le b 57) f).1 in
        omega (arith, most)
    by false f h =
        let most = leb-true b 102 (and_parts (nat_le 97 b) (nat_le b 102) h).1 in
        omega (arith, most)

small_bytes : (xs : List ℕ) → list_all is_hex_digit xs ≡ true → AreBytes (bytes_of xs)
small_bytes [] e = tt
small_bytes (a ∷ []) e = tt
small_bytes (a ∷ b ∷ rest) e =
    let first = and_parts (is_hex_digit a) (is_hex_digit b && list_all is_hex_digit rest) e in
    let second = and_parts (is_hex_digit b) (list_all is_hex_digit rest) first.1 in
    let high = small_digit a first.0 in
    let low = small_digit b second.0 in
    (omega (arith, high, low), small_bytes rest second.1)

well_quoted : (bytes : List ℕ) (len : ℕ) (kind : Kind) → quoted_at bytes ≡ stands (p.Spelled kind len) → IsWell kind
well_quoted bytes len kind e = by (length (digits_at bytes) % 2 == 0 && starts_with nat_eq (drop (length (digits_at bytes)) bytes) (34 ∷ [])) e
  where
    by : (b : Bool)
        → cond b (stands (p.Spelled (k.Bytes (bytes_of (digits_at bytes))) (length (digits_at bytes) + 2))) (unfit (length (digits_at bytes) + 1)) ≡ stands (p.Spelled kind len) → IsWell kind
    by true h =
        let same : k.Bytes (bytes_of (digits_at bytes)) ≡ kind = cc in
        subst IsWell same (small_bytes (digits_at bytes) (all_taken is_hex_digit bytes))
    by false h = absurd (cc)

-- ---- the tokens of a text

well_front : (bytes : List ℕ) (len : ℕ) (kind : Kind) → front_at bytes ≡ stands (p.Spelled kind len) → IsWell kind
well_front [] len kind e = absurd (cc)
well_front (b ∷ bs) len kind e = by (is_space b) (starts_with nat_eq (b ∷ bs) (codes "//")) (b == 34) (is_word_byte b) e
  where
    all : List ℕ
    all = b ∷ bs

    by : (w x y z : Bool)
        → cond w (stands (p.Blank 1)) (cond x (stands (p.Blank (line_len all))) (cond y (quoted_at bs)
        (cond z (front_of (spelled (word_kind (word_at all)) (length (word_at all)))) (front_of (sign_piece (sign_at all)))))) ≡ stands (p.Spelled kind len)
        → IsWell kind
    by true x y z h = absurd (cc)
    by false true y z h = absurd (cc)
    by false false true z h = well_quoted bs len kind h
    by false false false true h =
        well_word (word_at all) kind (all_taken is_word_byte all)
        (spelled_back (word_kind (word_at all)) (length (word_at all)) len kind h)
    by false false false false h = well_sign (sign_at all) len kind h

pub all_well : {at : ℕ} {bytes : List ℕ} {ts : List Token} → Lexes at bytes ts → AllByRecursion IsWellToken ts
all_well over = tt
all_well (blank e d) = all_well d
all_well (token {len = len} {bytes = bytes} {kind = kind} e d) = (well_front bytes len kind e, all_well d)
