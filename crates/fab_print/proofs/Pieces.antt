-- Pieces of a text: which tokens a text can have, and that each such token is found at the front of a text that begins with it.
use Rattle.std.proofs.Common.{◌≡◌, ℕ, zero, suc, ◌+◌, ◌-◌, ◌*◌, ◌/◌, ◌%◌, ◌^◌, ◌<◌, Bool, true, false, ◌&&◌, ◌||◌, not, cond, List, [], ◌∷◌, ◌++◌, length, drop, get_or, Option, Some, None, refl, sym, ap, ◌∙◌, subst, append_assoc, length-append, arith, codes}
use Rattle.std.specs.Prelude.{if◌then◌else◌, ◌==◌, nat_lt, nat_le, nat_eq, find, take_while}
use Rattle.std.specs.List.{list_all, starts_with}
use Rattle.std.specs.Str.{bytes_eq}
use Rattle.std.specs.Char.{is_ascii_digit}
use Rattle.std.specs.Cmp.{first_so, second_so}
use Rattle.std.specs.Fmt.{decimal, digit_glyph}
use Rattle.std.proofs.lemmas.Bool.Decides.{nat_tests}
use Rattle.std.proofs.lemmas.Fmt.{decimal_by_steps, decimal_digit, first_decimal}
use Rattle.std.proofs.lemmas.List.Sums.{take_while-cons}
use Rattle.std.proofs.lemmas.List.Folds.{list_all-append}
use Rattle.std.proofs.lemmas.Bool.{and_from}
use Rattle.fab_base.specs.declared.token.Mark.{Mark}
use Rattle.fab_base.specs.declared.token.Mark.TheVariants as m
use Rattle.fab_base.specs.declared.token.Kind.{Kind}
use Rattle.fab_base.specs.declared.token.Kind.TheVariants as k
use Rattle.fab_base.specs.declared.token.Piece.TheVariants as p
use Rattle.fab_base.specs.declared.token.Token.{Token}
use Rattle.fab_base.specs.Tokens.{mark_text, keywords, is_space, is_word_byte, keyword_of, is_name_text, is_numeral, value_from, number_kind, keyword_or, word_kind, sign_at, line_len, spelled, sign_piece, word_at, is_hex_digit, hex_value, digits_at, bytes_of, Front, stands, unfit, front_of, quoted_at, front_at, Lexes, over, blank, token}
use Rattle.fab_tree.specs.Print.{kind_text, digits_of}
use Rattle.fab_print.proofs.Inks.{Edge, free, word, sign, mark_edge, edge_of, Small, Well, Wells}

-- ---- tests

on_if : {A : Type 0} (P : A → Type 0) (q : Bool) (x y : A) → (q ≡ true → P x) → (q ≡ false → P y) → P (if q then x else y)
on_if P true x y f g = f refl
on_if P false x y f g = g refl

-- ---- runs

passes : (p : ℕ → Bool) (q : Bool) (x : ℕ) (xs : List ℕ) → p x ≡ q → list_all p xs ≡ true → list_all p (cond q (x ∷ xs) []) ≡ true
passes p true x xs e h = and_from (p x) (list_all p xs) e h
passes p false x xs e h = refl

-- a run passes its test
run_passes : (p : ℕ → Bool) (xs : List ℕ) → list_all p (take_while p xs) ≡ true
run_passes p [] = refl
run_passes p (x ∷ xs) = ap (list_all p) (take_while-cons p x xs) ∙ passes p (p x) x (take_while p xs) refl (run_passes p xs)

-- the first of a list, if there is one, fails the test
abbrev pub ends : (ℕ → Bool) → List ℕ → Bool
ends p [] = true
ends p (x ∷ xs) = not (p x)

-- a run to its end
run_whole : (p : ℕ → Bool) (xs ys : List ℕ) → list_all p xs ≡ true → ends p ys ≡ true → take_while p (xs ++ ys) ≡ xs
run_whole p [] [] h e = refl
run_whole p [] (y ∷ ys) h e =
    let g : p y ≡ false = grind arith in
    take_while-cons p y ys ∙ ap (λ q. cond q (y ∷ take_while p ys) []) g
run_whole p (x ∷ xs) ys h e =
    take_while-cons p x (xs ++ ys) ∙ ap (λ q. cond q (x ∷ take_while p (xs ++ ys)) []) (first_so (p x) (list_all p xs) h)
    ∙ ap (λ zs. x ∷ zs) (run_whole p xs ys (second_so (p x) (list_all p xs) h) e)

-- ---- which tokens a text can have

abbrev WordWell : List ℕ → Option Kind → Type 0
WordWell w None = Unit {0}
WordWell w (Some (k.Name x)) = x ≡ w
WordWell w (Some (k.Number n)) = n < 2147483648
WordWell w (Some k.Least) = Unit {0}
WordWell w (Some (k.Bytes bs)) = ⊥
WordWell w (Some (k.Fixed x)) = Unit {0}

keyword_well : (w : List ℕ) (o : Option Mark) (other : Option Kind) → WordWell w other → WordWell w (keyword_or o other)
keyword_well w None other h = h
keyword_well w (Some x) other h = tt

number_well : (w : List ℕ) (n : ℕ) → WordWell w (number_kind n)
number_well w n =
    on_if (WordWell w) (nat_le n 2147483647) (Some (k.Number n)) (if n == 2147483648 then Some k.Least else None)
    (λ e. let h : n < 2147483648 = grind (arith, nat_tests) in h)
    (λ e. on_if (WordWell w) (n == 2147483648) (Some k.Least) None (λ g. tt) (λ g. tt))

word_well : (w : List ℕ) → WordWell w (word_kind w)
word_well w =
    keyword_well w (keyword_of w) _
    (on_if (WordWell w) (is_name_text w) (Some (k.Name w)) (if is_numeral w then number_kind (value_from 0 w) else None) (λ e. refl)
    (λ e. on_if (WordWell w) (is_numeral w) (number_kind (value_from 0 w)) None (λ g. number_well w (value_from 0 w)) (λ g. tt)))

abbrev FrontWell : Front → Type 0
FrontWell (unfit n) = Unit {0}
FrontWell (stands (p.Blank n)) = Unit {0}
FrontWell (stands (p.Spelled x n)) = Well x

spelled_well : (w : List ℕ) → list_all is_word_byte w ≡ true → (o : Option Kind) → word_kind w ≡ o → WordWell w o → (len : ℕ) → FrontWell (front_of (spelled o len))
spelled_well w h None e g len = tt
spelled_well w h (Some (k.Name x)) e g len = (subst (λ y. list_all is_word_byte y ≡ true) (sym g) h, ap word_kind g ∙ e)
spelled_well w h (Some (k.Number n)) e g len = g
spelled_well w h (Some k.Least) e g len = tt
spelled_well w h (Some (k.Bytes bs)) e g len = absurd g
spelled_well w h (Some (k.Fixed x)) e g len = tt

hex_small : (a : ℕ) → is_hex_digit a ≡ true → hex_value a < 16
hex_small a h = grind (arith, nat_tests)

bytes_small : (ds : List ℕ) → list_all is_hex_digit ds ≡ true → Small (bytes_of ds)
bytes_small [] h = tt
bytes_small (a ∷ []) h = tt
bytes_small (a ∷ b ∷ ds) h =
    let g = second_so (is_hex_digit a) (is_hex_digit b && list_all is_hex_digit ds) h in
    let one = hex_small a (first_so (is_hex_digit a) (is_hex_digit b && list_all is_hex_digit ds) h) in
    let two = hex_small b (first_so (is_hex_digit b) (list_all is_hex_digit ds) g) in
    (omega arith, bytes_small ds (second_so (is_hex_digit b) (list_all is_hex_digit ds) g))

quoted_well : (bs : List ℕ) → FrontWell (quoted_at bs)
quoted_well bs =
    on_if FrontWell (length (digits_at bs) % 2 == 0 && starts_with nat_eq (drop (length (digits_at bs)) bs) (34 ∷ []))
    (stands (p.Spelled (k.Bytes (bytes_of (digits_at bs))) (length (digits_at bs) + 2))) (unfit (length (digits_at bs) + 1))
    (λ e. bytes_small (digits_at bs) (run_passes is_hex_digit bs)) (λ e. tt)

sign_well : (o : Option Mark) → FrontWell (front_of (sign_piece o))
sign_well None = tt
sign_well (Some x) = tt

front_well : (bytes : List ℕ) → FrontWell (front_at bytes)
front_well [] = tt
front_well (b ∷ bs) =
    on_if FrontWell (is_space b) _ _ (λ e. tt)
    (λ e. on_if FrontWell (starts_with nat_eq (b ∷ bs) (codes "//")) _ _ (λ e. tt)
    (λ e. on_if FrontWell (b == 34) _ _ (λ e. quoted_well bs)
    (λ e. on_if FrontWell (is_word_byte b) _ _
    (λ e. spelled_well (word_at (b ∷ bs)) (run_passes is_word_byte (b ∷ bs)) (word_kind (word_at (b ∷ bs))) refl (word_well (word_at (b ∷ bs))) _)
    (λ e. sign_well (sign_at (b ∷ bs))))))

-- the tokens of a text
pub wells : {at : ℕ} {bytes : List ℕ} {ts : List Token} → Lexes at bytes ts → Wells ts
wells over = tt
wells (blank e l) = wells l
wells (token {bytes = bytes} e l) = (subst FrontWell e (front_well bytes), wells l)

-- ---- words

-- a text that is one word, of this kind
pub record IsWord (w : List ℕ) (x : Kind) : Type 0 where
  pub run : list_all is_word_byte w ≡ true
  pub is_kind : word_kind w ≡ Some x

pick : {A : Type 0} (a b c d e : A) (p q r s : Bool) → p ≡ false → q ≡ false → r ≡ false → s ≡ true
    → (if p then a else (if q then b else (if r then c else (if s then d else e)))) ≡ d
pick a b c d e p q r s h i j l =
    ap (λ x. if x then a else (if q then b else (if r then c else (if s then d else e)))) h
    ∙ ap (λ x. if x then b else (if r then c else (if s then d else e))) i ∙ ap (λ x. if x then c else (if s then d else e)) j
    ∙ ap (λ x. if x then d else e) l

no_space : (b : ℕ) → is_word_byte b ≡ true → is_space b ≡ false
no_space b h = grind (arith, nat_tests)

no_slash : (b : ℕ) → is_word_byte b ≡ true → nat_eq 47 b ≡ false
no_slash b h = grind (arith, nat_tests)

no_quote : (b : ℕ) → is_word_byte b ≡ true → (b == 34) ≡ false
no_quote b h = grind (arith, nat_tests)

no_comment : (b : ℕ) (bs : List ℕ) → nat_eq 47 b ≡ false → starts_with nat_eq (b ∷ bs) (codes "//") ≡ false
no_comment b bs h = ap (λ q. q && starts_with nat_eq bs (47 ∷ [])) h

word_front : (w : List ℕ) (x : Kind) (rest : List ℕ) → IsWord w x → ends is_word_byte rest ≡ true → front_at (w ++ rest) ≡ stands (p.Spelled x (length w))
word_front [] x rest h e = absurd (cc (h.is_kind))
word_front (b ∷ bs) x rest h e =
    let first = first_so (is_word_byte b) (list_all is_word_byte bs) h.run in
    let whole : word_at (b ∷ (bs ++ rest)) ≡ b ∷ bs = run_whole is_word_byte (b ∷ bs) rest h.run e in
    pick _ _ _ _ _ (is_space b) (starts_with nat_eq (b ∷ (bs ++ rest)) (codes "//")) (b == 34) (is_word_byte b)
    (no_space b first) (no_comment b (bs ++ rest) (no_slash b first)) (no_quote b first) first
    ∙ ap (λ w. front_of (spelled (word_kind w) (length w))) whole ∙ ap (λ o. front_of (spelled o (suc (length bs)))) h.is_kind

-- ---- numbers

value_push : (n : ℕ) (ds : List ℕ) (d : ℕ) → value_from n (ds ++ d ∷ []) ≡ 10 * value_from n ds + (d - 48)
value_push n [] d = refl
value_push n (e ∷ ds) d = value_push (10 * n + (e - 48)) ds d

record IsDigits (n : ℕ) (ds : List ℕ) : Type 0 where
  all : list_all is_ascii_digit ds ≡ true
  some : 0 < length ds
  value : value_from 0 ds ≡ n

digit_test : (d : ℕ) → d < 10 → is_ascii_digit (48 + d) ≡ true
digit_test d h = grind (arith, nat_tests)

decimal_digits : (n : ℕ) → n < 2 ^ 64 → IsDigits n (decimal n)
decimal_digits =
    decimal_by_steps IsDigits
    (λ n h. record { all = and_from (is_ascii_digit (48 + n)) true (digit_test n h) refl; some = omega arith; value = omega arith })
    (λ n ds h g. record {
      all = list_all-append is_ascii_digit ds ((48 + n % 10) ∷ []) ∙ and_from (list_all is_ascii_digit ds) _ g.all (and_from (is_ascii_digit (48 + n % 10)) true (digit_test (n % 10) (omega arith)) refl);
      some = omega (arith, length-append ds ((48 + n % 10) ∷ []));
      value = omega (arith, value_push 0 ds (48 + n % 10), g.value);
    })

digit_byte : (d : ℕ) → is_ascii_digit d ≡ true → is_word_byte d ≡ true
digit_byte d h = grind (arith, nat_tests)

digits_run : (ds : List ℕ) → list_all is_ascii_digit ds ≡ true → list_all is_word_byte ds ≡ true
digits_run [] h = refl
digits_run (d ∷ ds) h =
    and_from (is_word_byte d) (list_all is_word_byte ds) (digit_byte d (first_so (is_ascii_digit d) (list_all is_ascii_digit ds) h))
    (digits_run ds (second_so (is_ascii_digit d) (list_all is_ascii_digit ds) h))

abbrev letter : List ℕ → Bool
letter [] = false
letter (b ∷ bs) = nat_le 97 b

unlike : (d : ℕ) (ds w : List ℕ) → d < 97 → letter w ≡ true → bytes_eq w (d ∷ ds) ≡ false
unlike d ds [] h l = refl
unlike d ds (b ∷ bs) h l = let e : nat_eq b d ≡ false = grind (arith, nat_tests) in ap (λ q. q && bytes_eq bs ds) e

none_of : (d : ℕ) (ds : List ℕ) (xs : List Mark) → d < 97 → list_all (λ x. letter (mark_text x)) xs ≡ true → find (λ x. bytes_eq (mark_text x) (d ∷ ds)) xs ≡ None
none_of d ds [] h l = refl
none_of d ds (x ∷ xs) h l =
    ap (λ q. cond q (Some x) (find (λ y. bytes_eq (mark_text y) (d ∷ ds)) xs))
    (unlike d ds (mark_text x) h (first_so (letter (mark_text x)) (list_all (λ y. letter (mark_text y)) xs) l))
    ∙ none_of d ds xs h (second_so (letter (mark_text x)) (list_all (λ y. letter (mark_text y)) xs) l)

keyword_letters : list_all (λ x. letter (mark_text x)) keywords ≡ true
keyword_letters = refl

digit_low : (d : ℕ) → is_ascii_digit d ≡ true → d < 97
digit_low d h = grind (arith, nat_tests)

small_kind : (n : ℕ) → n < 2147483648 → number_kind n ≡ Some (k.Number n)
small_kind n h =
    let e : nat_le n 2147483647 ≡ true = grind (arith, nat_tests) in
    ap (λ q. if q then Some (k.Number n) else (if n == 2147483648 then Some k.Least else None)) e

-- digits without a leading zero, as a word
digits_kind : (n : ℕ) (ds : List ℕ) → n < 2147483648 → IsDigits n ds → (length ds == 1 || not (get_or ds 0 0 == 48)) ≡ true → word_kind ds ≡ Some (k.Number n)
digits_kind n [] h i lead = absurd (omega (arith, i.some))
digits_kind n (d ∷ ds) h i lead =
    let first = first_so (is_ascii_digit d) (list_all is_ascii_digit ds) i.all in
    let no_key : keyword_of (d ∷ ds) ≡ None = none_of d ds keywords (digit_low d first) keyword_letters in
    let no_name : is_name_text (d ∷ ds) ≡ false = ap (λ q. not q && nat_le (length ds) 63) first in
    let some : nat_lt 0 (length (d ∷ ds)) ≡ true = grind (arith, nat_tests) in
    let is_one : is_numeral (d ∷ ds) ≡ true = and_from (nat_lt 0 (length (d ∷ ds)) && list_all is_ascii_digit (d ∷ ds)) _ (and_from _ _ some i.all) lead in
    ap (λ o. keyword_or o (if is_name_text (d ∷ ds) then Some (k.Name (d ∷ ds)) else (if is_numeral (d ∷ ds) then number_kind (value_from 0 (d ∷ ds)) else None))) no_key
    ∙ ap (λ q. if q then Some (k.Name (d ∷ ds)) else (if is_numeral (d ∷ ds) then number_kind (value_from 0 (d ∷ ds)) else None)) no_name
    ∙ ap (λ q. if q then number_kind (value_from 0 (d ∷ ds)) else None) is_one ∙ ap number_kind i.value ∙ small_kind n h

lead_by : (n : ℕ) (ds : List ℕ) → decimal n ≡ ds → n < 2147483648 → (length ds == 1 || not (get_or ds 0 0 == 48)) ≡ true
lead_by zero ds e h = subst (λ ds. (length ds == 1 || not (get_or ds 0 0 == 48)) ≡ true) (sym (decimal_digit 0 (omega arith)) ∙ e) refl
lead_by (suc n) ds e h =
    let g : 48 < get_or ds 0 0 = subst (λ ds. 48 < get_or ds 0 0) e (first_decimal (suc n) (omega arith) (omega arith)) in
    grind (arith, nat_tests)

pub number_word : (n : ℕ) → n < 2147483648 → IsWord (decimal n) (k.Number n)
number_word n h =
    let i = decimal_digits n (omega arith) in
    record { run = digits_run (decimal n) i.all; is_kind = digits_kind n (decimal n) h i (lead_by n (decimal n) refl h) }

-- ---- bytes

glyph : (d : ℕ) → d < 16 → (is_hex_digit (digit_glyph false d) ≡ true) × (hex_value (digit_glyph false d) ≡ d)
glyph d h =
    on_if (λ x. (is_hex_digit x ≡ true) × (hex_value x ≡ d)) (nat_lt d 10) (48 + d) (87 + d)
    (λ e. (grind (arith, nat_tests), grind (arith, nat_tests))) (λ e. (grind (arith, nat_tests), grind (arith, nat_tests)))

record AreDigits (bs ds : List ℕ) : Type 0 where
  run : list_all is_hex_digit ds ≡ true
  even : length ds ≡ 2 * length bs
  back : bytes_of ds ≡ bs

are_digits : (bs : List ℕ) → Small bs → AreDigits bs (digits_of bs)
are_digits [] s = record { run = refl; even = refl; back = refl }
are_digits (b ∷ bs) s =
    let more = are_digits bs s.1 in
    let one = glyph (b / 16) (omega (arith, s.0)) in
    let two = glyph (b % 16) (omega arith) in
    let same : 16 * hex_value (digit_glyph false (b / 16)) + hex_value (digit_glyph false (b % 16)) ≡ b = omega (arith, one.1, two.1) in
    record {
      run = and_from _ _ one.0 (and_from _ _ two.0 more.run);
      even = omega (arith, more.even);
      back = λ i. same i ∷ more.back i;
    }

-- what is behind a front
pub drop_front : (xs ys : List ℕ) → drop (length xs) (xs ++ ys) ≡ ys
drop_front [] ys = refl
drop_front (x ∷ xs) ys = drop_front xs ys

quoted_front : (bs rest : List ℕ) → Small bs → quoted_at (digits_of bs ++ 34 ∷ rest) ≡ stands (p.Spelled (k.Bytes bs) (length (digits_of bs) + 2))
quoted_front bs rest s =
    let i = are_digits bs s in
    let text = digits_of bs ++ 34 ∷ rest in
    let whole : digits_at text ≡ digits_of bs = run_whole is_hex_digit (digits_of bs) (34 ∷ rest) i.run refl in
    let zero_rest : length (digits_of bs) % 2 ≡ 0 = omega (arith, i.even) in
    let even : (length (digits_of bs) % 2 == 0) ≡ true = ap (λ n. n == 0) zero_rest in
    let closes : starts_with nat_eq (drop (length (digits_of bs)) text) (34 ∷ []) ≡ true = ap (λ x. starts_with nat_eq x (34 ∷ [])) (drop_front (digits_of bs) (34 ∷ rest)) in
    ap (λ ds. if length ds % 2 == 0 && starts_with nat_eq (drop (length ds) text) (34 ∷ []) then stands (p.Spelled (k.Bytes (bytes_of ds)) (length ds + 2)) else unfit (length ds + 1)) whole
    ∙ ap (λ q. if q then stands (p.Spelled (k.Bytes (bytes_of (digits_of bs))) (length (digits_of bs) + 2)) else unfit (length (digits_of bs) + 1)) (and_from _ _ even closes)
    ∙ ap (λ x. stands (p.Spelled (k.Bytes x) (length (digits_of bs) + 2))) i.back

-- ---- signs

-- what may touch an edge
abbrev pub apart : Edge → List ℕ → Bool
apart free bs = true
apart word bs = ends is_word_byte bs
apart sign bs = ends (λ b. b == 62 || b == 45 || b == 61 || b == 47) bs

not_signs : (c : ℕ) → not (c == 62 || c == 45 || c == 61 || c == 47) ≡ true → (nat_eq 62 c ≡ false) × (nat_eq 45 c ≡ false) × (nat_eq 61 c ≡ false) × (nat_eq 47 c ≡ false)
not_signs c h = (grind (arith, nat_tests), grind (arith, nat_tests), grind (arith, nat_tests), grind (arith, nat_tests))

minus_front : (rest : List ℕ) → apart sign rest ≡ true → front_at (mark_text m.Minus ++ rest) ≡ stands (p.Spelled (k.Fixed m.Minus) 1)
minus_front [] h = refl
minus_front (c ∷ cs) h =
    let e = not_signs c h in
    ap (λ q. front_of (sign_piece (cond (q && true) (Some m.Arrow) (Some m.Minus)))) e.0

less_front : (rest : List ℕ) → apart sign rest ≡ true → front_at (mark_text m.Less ++ rest) ≡ stands (p.Spelled (k.Fixed m.Less) 1)
less_front [] h = refl
less_front (c ∷ cs) h =
    let e = not_signs c h in
    ap (λ q. front_of (sign_piece (cond (q && true) (Some m.BackArrow) (cond (nat_eq 61 c && true) (Some m.LessEqual) (Some m.Less))))) e.1
    ∙ ap (λ q. front_of (sign_piece (cond (q && true) (Some m.LessEqual) (Some m.Less)))) e.2

greater_front : (rest : List ℕ) → apart sign rest ≡ true → front_at (mark_text m.Greater ++ rest) ≡ stands (p.Spelled (k.Fixed m.Greater) 1)
greater_front [] h = refl
greater_front (c ∷ cs) h =
    let e = not_signs c h in
    ap (λ q. front_of (sign_piece (cond (q && true) (Some m.GreaterEqual) (Some m.Greater)))) e.2

equal_front : (rest : List ℕ) → apart sign rest ≡ true → front_at (mark_text m.Equal ++ rest) ≡ stands (p.Spelled (k.Fixed m.Equal) 1)
equal_front [] h = refl
equal_front (c ∷ cs) h =
    let e = not_signs c h in
    ap (λ q. front_of (sign_piece (cond (q && true) (Some m.EqualEqual) (Some m.Equal)))) e.2

bang_front : (rest : List ℕ) → apart sign rest ≡ true → front_at (mark_text m.Bang ++ rest) ≡ stands (p.Spelled (k.Fixed m.Bang) 1)
bang_front [] h = refl
bang_front (c ∷ cs) h =
    let e = not_signs c h in
    ap (λ q. front_of (sign_piece (cond (q && true) (Some m.NotEqual) (Some m.Bang)))) e.2

slash_front : (rest : List ℕ) → apart sign rest ≡ true → front_at (mark_text m.Slash ++ rest) ≡ stands (p.Spelled (k.Fixed m.Slash) 1)
slash_front [] h = refl
slash_front (c ∷ cs) h =
    let e = not_signs c h in
    ap (λ q. if q && true then stands (p.Blank (line_len (47 ∷ c ∷ cs))) else stands (p.Spelled (k.Fixed m.Slash) 1)) e.3

mark_front : (x : Mark) (rest : List ℕ) → apart (mark_edge x) rest ≡ true → front_at (mark_text x ++ rest) ≡ stands (p.Spelled (k.Fixed x) (length (mark_text x)))
mark_front m.Arrow rest h = refl
mark_front m.BackArrow rest h = refl
mark_front m.EqualEqual rest h = refl
mark_front m.NotEqual rest h = refl
mark_front m.LessEqual rest h = refl
mark_front m.GreaterEqual rest h = refl
mark_front m.Plus rest h = refl
mark_front m.Star rest h = refl
mark_front m.And rest h = refl
mark_front m.Bar rest h = refl
mark_front m.LeftParen rest h = refl
mark_front m.RightParen rest h = refl
mark_front m.LeftBrace rest h = refl
mark_front m.RightBrace rest h = refl
mark_front m.Comma rest h = refl
mark_front m.Semicolon rest h = refl
mark_front m.Colon rest h = refl
mark_front m.Dot rest h = refl
mark_front m.At rest h = refl
mark_front m.Minus rest h = minus_front rest h
mark_front m.Less rest h = less_front rest h
mark_front m.Greater rest h = greater_front rest h
mark_front m.Equal rest h = equal_front rest h
mark_front m.Bang rest h = bang_front rest h
mark_front m.Slash rest h = slash_front rest h
mark_front x rest h = word_front (mark_text x) (k.Fixed x) rest (record { run = refl; is_kind = refl }) h

-- a token that a text can have, at the front
pub front_again : (x : Kind) → Well x → (rest : List ℕ) → apart (edge_of x) rest ≡ true → front_at (kind_text x ++ rest) ≡ stands (p.Spelled x (length (kind_text x)))
front_again (k.Name x) w rest h = word_front x (k.Name x) rest (record { run = w.0; is_kind = w.1 }) h
front_again (k.Number n) w rest h = word_front (decimal n) (k.Number n) rest (number_word n w) h
front_again k.Least w rest h = word_front (kind_text k.Least) k.Least rest (record { run = refl; is_kind = refl }) h
front_again (k.Bytes bs) w rest h =
    let e : (digits_of bs ++ 34 ∷ []) ++ rest ≡ digits_of bs ++ 34 ∷ rest = append_assoc (digits_of bs) (34 ∷ []) rest in
    let n : length (digits_of bs) + 2 ≡ length (kind_text (k.Bytes bs)) = omega (arith, length-append (digits_of bs) (34 ∷ [])) in
    ap (λ x. front_at (34 ∷ x)) e ∙ quoted_front bs rest w ∙ ap (λ x. stands (p.Spelled (k.Bytes bs) x)) n
front_again (k.Fixed x) w rest h = mark_front x rest h
