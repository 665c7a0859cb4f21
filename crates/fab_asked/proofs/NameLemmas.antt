-- Words that are names, as tokens.
use Rattle.std.proofs.Common.{◌≡◌, ◌∙◌, ℕ, ◌+◌, ◌<◌, ◌≤◌, ◌&&◌, ◌==◌, Bool, true, false, not, cond, if◌then◌else◌, codes, refl, sym, ap, ap₂, subst, List, [], ◌∷◌, length, Option, Some, None, take_while, eqb-true, arith}
use Rattle.std.specs.List.{list_all, starts_with}
use Rattle.std.specs.Prelude.{nat_eq, nat_le}
use Rattle.std.specs.Char.{is_ascii_digit}
use Rattle.std.proofs.lemmas.Bool.{both_ways, leb-true, and_parts}
use Rattle.std.proofs.lemmas.List.{drop_all}
use Rattle.std.proofs.lemmas.List.Sums.{take_while-cons}
use Rattle.fab_base.specs.declared.token.Mark.{Mark}
use Rattle.fab_base.specs.declared.token.Kind.{Kind}
use Rattle.fab_base.specs.declared.token.Kind.TheVariants as k
use Rattle.fab_base.specs.declared.token.Piece.TheVariants as p
use Rattle.fab_base.specs.declared.token.Token.{Token}
use Rattle.fab_base.specs.Tokens.{Lexes, over, blank, token, Front, stands, unfit, front_at, front_of, spelled, word_at, word_kind, is_word_byte, is_space, line_len, quoted_at, sign_piece, sign_at, is_name_text, is_numeral, number_kind, value_from, keyword_of, keyword_or}
use Rattle.fab_asked.specs.Names.{is_name_kind, is_name_word, is_one_name}

-- ---- what stands at the front of a word

not_true : (b : Bool) → (b ≡ true → ⊥) → b ≡ false
not_true true h = absurd (h refl)
not_true false h = refl

-- a word's byte is none that words aren't made of
apart : (b c : ℕ) → is_word_byte b ≡ true → is_word_byte c ≡ false → (b == c) ≡ false
apart b c h n = not_true (b == c) (λ e. both_ways (is_word_byte c) n (subst (λ x. is_word_byte x ≡ true) (eqb-true b c e) h))

whole_run : (word : List ℕ) → list_all is_word_byte word ≡ true → take_while is_word_byte word ≡ word
whole_run [] e = refl
whole_run (b ∷ bs) e =
    let h = and_parts (is_word_byte b) (list_all is_word_byte bs) e in
    take_while-cons is_word_byte b bs ∙ ap₂ (λ x xs. cond x (b ∷ xs) []) h.0 (whole_run bs h.1)

-- where no space, no comment and no quotation mark stands at the front, and a word does
front_chosen : (s c q w : Bool) (a b x y z : Front) → s ≡ false → c ≡ false → q ≡ false → w ≡ true → (if s then a else (if c then b else (if q then x else (if w then y else z)))) ≡ y
front_chosen s c q w a b x y z e f g h = rw (e, f, g, h) refl

no_space : (b : ℕ) → is_word_byte b ≡ true → is_space b ≡ false
no_space b h =
    let space = apart b 32 h refl in
    let tab = apart b 9 h refl in
    let feed = apart b 10 h refl in
    let back = apart b 13 h refl in
    rw (space, tab, feed, back) refl

no_comment : (b : ℕ) (bs : List ℕ) → is_word_byte b ≡ true → starts_with nat_eq (b ∷ bs) (codes "//") ≡ false
no_comment b bs h =
    let slash : nat_eq 47 b ≡ false = not_true (nat_eq 47 b) (λ e. both_ways (is_word_byte b) (subst (λ x. is_word_byte x ≡ false) (eqb-true 47 b e) refl) h) in
    rw slash refl

word_front : (b : ℕ) (bs : List ℕ) → list_all is_word_byte (b ∷ bs) ≡ true → front_at (b ∷ bs) ≡ front_of (spelled (word_kind (b ∷ bs)) (length (b ∷ bs)))
word_front b bs e =
    let h = and_parts (is_word_byte b) (list_all is_word_byte bs) e in
    front_chosen (is_space b) (starts_with nat_eq (b ∷ bs) (codes "//")) (b == 34) (is_word_byte b) (stands (p.Blank 1)) (stands (p.Blank (line_len (b ∷ bs)))) (quoted_at bs)
    (front_of (spelled (word_kind (word_at (b ∷ bs))) (length (word_at (b ∷ bs))))) (front_of (sign_piece (sign_at (b ∷ bs)))) (no_space b h.0) (no_comment b bs h.0) (apart b 34 h.0 refl) h.0
    ∙ ap (λ w. front_of (spelled (word_kind w) (length w))) (whole_run (b ∷ bs) e)

-- ---- the tokens of a word

no_token : {word : List ℕ} {ts : List Token} → front_at word ≡ unfit 0 → Lexes 0 word ts → word ≡ []
no_token h over = refl
no_token h (blank e d) = absurd (cc)
no_token h (token e d) = absurd (cc)

no_tokens : {ts : List Token} → Lexes 0 [] ts → ts ≡ []
no_tokens over = refl
no_tokens (blank e d) = absurd (cc)
no_tokens (token e d) = absurd (cc)

abbrev the_token : List ℕ → Kind → Token
the_token word kind = record { kind = kind; at = 0; end = 0 + length word }

one_token : (word : List ℕ) (kind : Kind) → front_at word ≡ stands (p.Spelled kind (length word)) → Lexes 0 word (the_token word kind ∷ [])
one_token word kind e = token e (subst (λ x. Lexes (0 + length word) x []) (sym (drop_all (length word) word (omega arith))) over)

-- what a word is, as its tokens say it
data Said (word : List ℕ) : Type 0 where
  nothing : front_at word ≡ unfit 0 → word_kind word ≡ None → Said word
  something : (kind : Kind) → front_at word ≡ stands (p.Spelled kind (length word)) → word_kind word ≡ Some kind → Said word

said : (word : List ℕ) (o : Option Kind) → word_kind word ≡ o → front_at word ≡ front_of (spelled o (length word)) → Said word
said word None e f = nothing f e
said word (Some kind) e f = something kind f e

word_said : (b : ℕ) (bs : List ℕ) → list_all is_word_byte (b ∷ bs) ≡ true → Said (b ∷ bs)
word_said b bs e = said (b ∷ bs) (word_kind (b ∷ bs)) refl (word_front b bs e)

is_name_by : (word : List ℕ) (o : Option Kind) → list_all is_word_byte word ≡ true → word_kind word ≡ o → is_name_word word ≡ is_name_kind o
is_name_by word o e f = ap₂ (λ a b. a && is_name_kind b) e f

-- tokens that a word has, and no others, are one name exactly where the word is one
pub tokens_say : (word : List ℕ) (ts : List Token) → list_all is_word_byte word ≡ true → Lexes 0 word ts → ((us : List Token) → Lexes 0 word us → us ≡ ts) → is_one_name ts ≡ is_name_word word
tokens_say [] ts e d only = ap is_one_name (no_tokens d)
tokens_say (b ∷ bs) ts e d only = elim (word_said b bs e) [
  | nothing f g ↦ absurd (let bad : b ∷ bs ≡ [] = no_token f d in cc)
  | something kind f g ↦ ap is_one_name (sym (only (the_token (b ∷ bs) kind ∷ []) (one_token (b ∷ bs) kind f))) ∙ sym (is_name_by (b ∷ bs) (Some kind) e g)
]

-- a word without tokens is no name
pub no_tokens_say : (word : List ℕ) → list_all is_word_byte word ≡ true → ((ts : List Token) → Lexes 0 word ts → ⊥) → false ≡ is_name_word word
no_tokens_say [] e none = refl
no_tokens_say (b ∷ bs) e none = elim (word_said b bs e) [
  | nothing f g ↦ sym (is_name_by (b ∷ bs) None e g)
  | something kind f g ↦ absurd (none (the_token (b ∷ bs) kind ∷ []) (one_token (b ∷ bs) kind f))
]

-- ---- what is no name at once

second_false : (a b : Bool) → b ≡ false → (a && b) ≡ false
second_false true b e = e
second_false false b e = refl

no_number_name : (a b : Bool) (n : ℕ) → is_name_kind (if a then Some (k.Number n) else (if b then Some k.Least else None)) ≡ false
no_number_name true b n = refl
no_number_name false true n = refl
no_number_name false false n = refl

no_other_name : (o : Option Mark) (numeral : Bool) (n : ℕ) → is_name_kind (keyword_or o (if numeral then number_kind n else None)) ≡ false
no_other_name (Some x) numeral n = refl
no_other_name None true n = no_number_name (nat_le n 2147483647) (n == 2147483648) n
no_other_name None false n = refl

no_name_text : (word : List ℕ) → is_name_text word ≡ false → is_name_kind (word_kind word) ≡ false
no_name_text word e = ap (λ x. is_name_kind (keyword_or (keyword_of word) (if x then Some (k.Name word) else (if is_numeral word then number_kind (value_from 0 word) else None)))) e
    ∙ no_other_name (keyword_of word) (is_numeral word) (value_from 0 word)

pub too_long : (word : List ℕ) → 64 < length word → false ≡ is_name_word word
too_long [] h = absurd (omega (arith, h))
too_long (b ∷ bs) h =
    let long : nat_le (length bs) 63 ≡ false = not_true (nat_le (length bs) 63) (λ e. let short : length bs ≤ 63 = leb-true (length bs) 63 e in omega (arith, h, short)) in
    sym (second_false (list_all is_word_byte (b ∷ bs)) (is_name_kind (word_kind (b ∷ bs))) (no_name_text (b ∷ bs) (second_false (not (is_ascii_digit b)) (nat_le (length bs) 63) long)))

pub other_bytes : (word : List ℕ) → list_all is_word_byte word ≡ false → false ≡ is_name_word word
other_bytes word e = sym (ap (λ a. a && is_name_kind (word_kind word)) e)
