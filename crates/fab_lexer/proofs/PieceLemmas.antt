-- How long the pieces of a text are.
use Rattle.std.proofs.Common.{◌≡◌, ℕ, ◌+◌, ◌-◌, ◌≤◌, ◌<◌, ◌%◌, Bool, true, false, ◌&&◌, not, cond, Option, Some, None, List, [], ◌∷◌, length, take, drop, refl, sym, ap, ◌∙◌, subst, arith, lit<, one-add, codes}
use Rattle.std.specs.Prelude.{find, nat_eq, ◌==◌, take_while}
use Rattle.std.specs.List.{starts_with, list_all, prefix_len, AllPass}
use Rattle.std.specs.Cmp.Lexicographic.{as_long}
use Rattle.std.specs.Cmp.{first_so, second_so}
use Rattle.std.specs.Str.{IsUtf8}
use Rattle.std.proofs.lemmas.List.{length-take, length-drop, take_all}
use Rattle.std.proofs.lemmas.List.Sums.{AllPass-from_list_all, prefix_len-le-length}
use Rattle.std.proofs.lemmas.List.Folds.{length-prefix_len}
use Rattle.std.proofs.lemmas.Bool.{eqb-true}
use Rattle.std.proofs.lemmas.Bool.Decides.{nat_tests}
use Rattle.std.proofs.lemmas.Str.{IsUtf8-from_ascii}
use Rattle.std.proofs.lemmas.Str.Ascii.{IsAscii-from_all}
use Rattle.fab_base.specs.declared.token.Mark.{Mark}
use Rattle.fab_base.specs.declared.token.Mark.TheVariants as m
use Rattle.fab_base.specs.declared.token.Kind.{Kind}
use Rattle.fab_base.specs.declared.token.Piece.{Piece}
use Rattle.fab_lexer.specs.Cuts.{len_of}
use Rattle.fab_base.specs.Tokens.{Front, stands, unfit, mark_text, signs, is_space, is_word_byte, is_hex_digit, digits_at, quoted_at, word_kind, word_at, sign_at, sign_piece, spelled, front_of, front_at}

-- ---- words

passes_by : (p : ℕ → Bool) (x : ℕ) (xs : List ℕ) (n : ℕ) (b : Bool) → p x ≡ b → list_all p (take n xs) ≡ true → list_all p (take (cond b (1 + n) 0) (x ∷ xs)) ≡ true
passes_by p x xs n true e h = rw one-add (ap (λ b. b && list_all p (take n xs)) e ∙ h)
passes_by p x xs n false e h = refl

run_passes : (p : ℕ → Bool) (xs : List ℕ) → list_all p (take (prefix_len p xs) xs) ≡ true
run_passes p [] = refl
run_passes p (x ∷ xs) = passes_by p x xs (prefix_len p xs) (p x) refl (run_passes p xs)

-- a word has word bytes alone
pub word_passes : (bytes : List ℕ) → AllPass is_word_byte (word_at bytes)
word_passes bytes = AllPass-from_list_all is_word_byte (word_at bytes) (run_passes is_word_byte bytes)

word_byte_is_small : (b : ℕ) → is_word_byte b ≡ true → b < 128
word_byte_is_small b h = grind (arith, nat_tests)

-- and digits are digits alone
pub digits_pass : (bytes : List ℕ) → AllPass is_hex_digit (digits_at bytes)
digits_pass bytes = AllPass-from_list_all is_hex_digit (digits_at bytes) (run_passes is_hex_digit bytes)

-- word bytes are ASCII
pub word_is_text : (word : List ℕ) → AllPass is_word_byte word → IsUtf8 word
word_is_text word h = IsUtf8-from_ascii word (IsAscii-from_all word (λ k d i. word_byte_is_small _ (h k d i)))

-- ---- lengths

-- a piece takes at least one byte, and no more than there are
pub record TakesSome (bytes : List ℕ) (piece : Piece) : Type 0 where
  pub some : 0 < len_of piece
  pub within : len_of piece ≤ length bytes

prefix_len-some : (p : ℕ → Bool) (x : ℕ) (xs : List ℕ) → p x ≡ true → 0 < prefix_len p (x ∷ xs)
prefix_len-some p x xs e = rw e (omega arith)

run_len : (p : ℕ → Bool) (x : ℕ) (xs : List ℕ) → p x ≡ true → (0 < length (take_while p (x ∷ xs))) × (length (take_while p (x ∷ xs)) ≤ length (x ∷ xs))
run_len p x xs e =
    let l = length-prefix_len p (x ∷ xs) in
    (omega (arith, l, prefix_len-some p x xs e), omega (arith, l, prefix_len-le-length p (x ∷ xs)))

-- what stands at the front takes some bytes, and no more fit than there are
abbrev pub Fits : List ℕ → Front → Type 0
Fits bytes (stands x) = TakesSome bytes x
Fits bytes (unfit n) = n ≤ length bytes

spelled_fits : (bytes : List ℕ) (kind : Option Kind) (n : ℕ) → 0 < n → n ≤ length bytes → Fits bytes (front_of (spelled kind n))
spelled_fits bytes (Some k) n s w = record { some = s; within = w }
spelled_fits bytes None n s w = omega arith

found_by : (p : Mark → Bool) (x y : Mark) (rest : Option Mark) (b : Bool) → p y ≡ b → (rest ≡ Some x → p x ≡ true) → cond b (Some y) rest ≡ Some x → p x ≡ true
found_by p x y rest true h later e = let same : y ≡ x = cc in ap p (sym same) ∙ h
found_by p x y rest false h later e = later e

-- what is found passes
pub find_passes : (p : Mark → Bool) (xs : List Mark) (x : Mark) → find p xs ≡ Some x → p x ≡ true
find_passes p [] x e = absurd (cc)
find_passes p (y ∷ ys) x e = found_by p x y (find p ys) (p y) refl (find_passes p ys x) e

mark_text-some : (x : Mark) → 0 < length (mark_text x)
mark_text-some m.Arrow = lit< tt
mark_text-some _ = lit< tt

starts_within : (bytes needle : List ℕ) → starts_with nat_eq bytes needle ≡ true → length needle ≤ length bytes
starts_within bytes needle h = omega (arith, as_long nat_eq needle (take (length needle) bytes) h, length-take (length needle) bytes)

sign_fits : (bytes : List ℕ) (found : Option Mark) → sign_at bytes ≡ found → Fits bytes (front_of (sign_piece found))
sign_fits bytes None h = omega arith
sign_fits bytes (Some y) h =
    let begins = find_passes (λ z. starts_with nat_eq bytes (mark_text z)) signs y h in
    record { some = mark_text-some y; within = starts_within bytes (mark_text y) begins }

slash_first : (b : ℕ) (bs : List ℕ) → starts_with nat_eq (b ∷ bs) (codes "//") ≡ true → not (b == 10) ≡ true
slash_first b bs h = let e : 47 ≡ b = eqb-true 47 b (first_so (nat_eq 47 b) _ h) in subst (λ x. not (x == 10) ≡ true) e refl

on_cond : (Q : Front → Type 0) (t : Bool) (a o : Front) → (t ≡ true → Q a) → (t ≡ false → Q o) → Q (cond t a o)
on_cond Q true a o f g = f refl
on_cond Q false a o f g = g refl

run_within : (p : ℕ → Bool) (xs : List ℕ) → length (take_while p xs) ≤ length xs
run_within p xs = omega (arith, length-prefix_len p xs, prefix_len-le-length p xs)

quoted_fits : (b : ℕ) (bs : List ℕ) → Fits (b ∷ bs) (quoted_at bs)
quoted_fits b bs =
    let n = length (digits_at bs) in
    let even = n % 2 == 0 in
    let closed = starts_with nat_eq (drop n bs) (34 ∷ []) in
    let w = run_within is_hex_digit bs in
    on_cond (Fits (b ∷ bs)) (even && closed) _ _
    (λ h. let m = starts_within (drop n bs) (34 ∷ []) (second_so even closed h) in record { some = omega arith; within = omega (arith, m, length-drop n bs) })
    (λ h. omega (arith, w))

pub front_fits : (bytes : List ℕ) → Fits bytes (front_at bytes)
front_fits [] = omega arith
front_fits (b ∷ bs) =
    on_cond (Fits (b ∷ bs)) (is_space b) _ _ (λ h. record { some = omega arith; within = omega arith })
    (λ h. on_cond (Fits (b ∷ bs)) (starts_with nat_eq (b ∷ bs) (codes "//")) _ _
    (λ i. let l = run_len (λ x. not (x == 10)) b bs (slash_first b bs i) in record { some = l.0; within = l.1 })
    (λ i. on_cond (Fits (b ∷ bs)) (b == 34) _ _ (λ j. quoted_fits b bs)
    (λ j. on_cond (Fits (b ∷ bs)) (is_word_byte b) _ _
    (λ k. let l = run_len is_word_byte b bs k in spelled_fits (b ∷ bs) (word_kind (word_at (b ∷ bs))) _ l.0 l.1)
    (λ k. sign_fits (b ∷ bs) (sign_at (b ∷ bs)) refl))))

pub piece_takes : (bytes : List ℕ) (x : Piece) → front_at bytes ≡ stands x → TakesSome bytes x
piece_takes bytes x e = subst (Fits bytes) e (front_fits bytes)

pub unfit_within : (bytes : List ℕ) (n : ℕ) → front_at bytes ≡ unfit n → n ≤ length bytes
unfit_within bytes n e = subst (Fits bytes) e (front_fits bytes)

-- the slice from a place on
pub from_here : (bytes : List ℕ) (at : ℕ) → take (length bytes - at) (drop at bytes) ≡ drop at bytes
from_here bytes at = take_all (length bytes - at) (drop at bytes) (omega (arith, length-drop at bytes))
