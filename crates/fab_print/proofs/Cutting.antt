-- Inks that are clean are cut into their tokens.
use Rattle.std.proofs.Common.{◌≡◌, ℕ, ◌+◌, ◌-◌, ◌≤◌, Bool, true, false, ◌||◌, not, List, [], ◌∷◌, ◌++◌, length, drop, refl, sym, subst, length-append, arith}
use Rattle.std.specs.Prelude.{◌==◌}
use Rattle.std.specs.List.{list_all}
use Rattle.std.specs.Cmp.{first_so, second_so}
use Rattle.std.specs.Fmt.{decimal}
use Rattle.std.proofs.lemmas.Bool.Decides.{nat_tests}
use Rattle.fab_base.specs.declared.token.Mark.{Mark}
use Rattle.fab_base.specs.declared.token.Mark.TheVariants as m
use Rattle.fab_base.specs.declared.token.Kind.{Kind}
use Rattle.fab_base.specs.declared.token.Kind.TheVariants as k
use Rattle.fab_base.specs.declared.token.Piece.TheVariants as p
use Rattle.fab_base.specs.declared.token.Token.{Token}
use Rattle.fab_base.specs.Tokens.{mark_text, is_space, is_word_byte, Front, stands, front_at, Lexes}
use Rattle.fab_base.specs.Tokens as t
use Rattle.fab_tree.specs.Print.{Ink, token, blank, kind_text, text_of}
use Rattle.fab_print.proofs.Inks.{Edge, free, word, sign, edge_of, fits, Well, Holds, Clean, tokens}
use Rattle.fab_print.proofs.Pieces.{apart, front_again, drop_front, IsWord, number_word}

-- ---- what follows doesn't run into what stands before

held : (q : Bool) → Holds q → q ≡ true
held true h = refl
held false h = absurd h

space_apart : (e : Edge) (b : ℕ) (bs : List ℕ) → is_space b ≡ true → apart e (b ∷ bs) ≡ true
space_apart free b bs h = refl
space_apart word b bs h = grind (arith, nat_tests)
space_apart sign b bs h = grind (arith, nat_tests)

word_sign : (b : ℕ) → is_word_byte b ≡ true → not (b == 62 || b == 45 || b == 61 || b == 47) ≡ true
word_sign b h = grind (arith, nat_tests)

-- a word may touch a sign
word_apart : (w : List ℕ) (x : Kind) (rest : List ℕ) → IsWord w x → apart sign (w ++ rest) ≡ true
word_apart [] x rest h = absurd (cc (h.is_kind))
word_apart (b ∷ bs) x rest h = word_sign b (first_so (is_word_byte b) (list_all is_word_byte bs) h.run)

implied : (q r : Bool) → (not q || r) ≡ true → Holds q → r ≡ true
implied true r e h = e
implied false r e h = absurd h

word_test : (x : Mark) (rest : List ℕ) → (not (fits word (k.Fixed x)) || apart word (mark_text x ++ rest)) ≡ true
word_test m.Arrow rest = refl
word_test _ rest = refl

sign_test : (x : Mark) (rest : List ℕ) → (not (fits sign (k.Fixed x)) || apart sign (mark_text x ++ rest)) ≡ true
sign_test m.Arrow rest = refl
sign_test _ rest = refl

token_apart : (e : Edge) (x : Kind) (rest : List ℕ) → Holds (fits e x) → Well x → apart e (kind_text x ++ rest) ≡ true
token_apart free x rest h w = refl
token_apart word (k.Name x) rest h w = absurd h
token_apart word (k.Number n) rest h w = absurd h
token_apart word k.Least rest h w = absurd h
token_apart word (k.Bytes bs) rest h w = refl
token_apart word (k.Fixed x) rest h w = implied (fits word (k.Fixed x)) (apart word (mark_text x ++ rest)) (word_test x rest) h
token_apart sign (k.Name x) rest h w = word_apart x (k.Name x) rest (record { run = w.0; is_kind = w.1 })
token_apart sign (k.Number n) rest h w = word_apart (decimal n) (k.Number n) rest (number_word n w)
token_apart sign k.Least rest h w = refl
token_apart sign (k.Bytes bs) rest h w = absurd h
token_apart sign (k.Fixed x) rest h w = implied (fits sign (k.Fixed x)) (apart sign (mark_text x ++ rest)) (sign_test x rest) h

clean_apart : (e : Edge) (inks : List Ink) → Clean e inks → apart e (text_of inks) ≡ true
clean_apart free inks c = refl
clean_apart word [] c = refl
clean_apart word (blank [] ∷ more) c = clean_apart word more c
clean_apart word (blank (b ∷ bs) ∷ more) c =
    space_apart word b (bs ++ text_of more) (first_so (is_space b) (list_all is_space bs) (held (list_all is_space (b ∷ bs)) c.0))
clean_apart word (token x ∷ more) c = token_apart word x (text_of more) c.0 c.1
clean_apart sign [] c = refl
clean_apart sign (blank [] ∷ more) c = clean_apart sign more c
clean_apart sign (blank (b ∷ bs) ∷ more) c =
    space_apart sign b (bs ++ text_of more) (first_so (is_space b) (list_all is_space bs) (held (list_all is_space (b ∷ bs)) c.0))
clean_apart sign (token x ∷ more) c = token_apart sign x (text_of more) c.0 c.1

-- ---- cutting

space_front : (b : ℕ) (bs : List ℕ) → is_space b ≡ true → front_at (b ∷ bs) ≡ stands (p.Blank 1)
space_front b bs h = rw h refl

spaces_cut : (n : ℕ) (bs rest : List ℕ) (ts : List Token) → list_all is_space bs ≡ true → length (bs ++ rest) ≤ n
    → Lexes (n - length rest) rest ts → Lexes (n - length (bs ++ rest)) (bs ++ rest) ts
spaces_cut n [] rest ts h room l = l
spaces_cut n (b ∷ bs) rest ts h room l =
    let more = spaces_cut n bs rest ts (second_so (is_space b) (list_all is_space bs) h) (omega arith) l in
    let place : n - length (bs ++ rest) ≡ (n - length (b ∷ (bs ++ rest))) + 1 = omega arith in
    t.blank (space_front b (bs ++ rest) (first_so (is_space b) (list_all is_space bs) h)) (subst (λ at. Lexes at (bs ++ rest) ts) place more)

token_cut : (n : ℕ) (x : Kind) (rest : List ℕ) (ts : List Token) → Well x → apart (edge_of x) rest ≡ true → length (kind_text x ++ rest) ≤ n
    → Lexes (n - length rest) rest ts
    → Lexes (n - length (kind_text x ++ rest)) (kind_text x ++ rest) (record { kind = x; at = n - length (kind_text x ++ rest); end = n - length rest } ∷ ts)
token_cut n x rest ts w h room l =
    let text = kind_text x ++ rest in
    let place : n - length rest ≡ (n - length text) + length (kind_text x) = omega (arith, length-append (kind_text x) rest) in
    let behind : Lexes ((n - length text) + length (kind_text x)) (drop (length (kind_text x)) text) ts =
    subst (λ at. Lexes at (drop (length (kind_text x)) text) ts) place (subst (λ y. Lexes (n - length rest) y ts) (sym (drop_front (kind_text x) rest)) l) in
    subst (λ end. Lexes (n - length text) text (record { kind = x; at = n - length text; end = end } ∷ ts)) (sym place)
    (t.token (front_again x w rest h) behind)

-- clean inks are cut into their tokens
pub cut : (n : ℕ) (e : Edge) (inks : List Ink) → Clean e inks → length (text_of inks) ≤ n → Lexes (n - length (text_of inks)) (text_of inks) (tokens n inks)
cut n e [] c room = t.over
cut n e (blank [] ∷ more) c room = cut n e more c room
cut n e (blank (b ∷ bs) ∷ more) c room =
    spaces_cut n (b ∷ bs) (text_of more) (tokens n more) (held (list_all is_space (b ∷ bs)) c.0) room
    (cut n free more c.1 (omega (arith, length-append (b ∷ bs) (text_of more))))
cut n e (token x ∷ more) c room =
    token_cut n x (text_of more) (tokens n more) c.1 (clean_apart (edge_of x) more c.2) room
    (cut n (edge_of x) more c.2 (omega (arith, length-append (kind_text x) (text_of more))))
