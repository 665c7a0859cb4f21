-- A text has one list of tokens, or one place where it can't be cut.
use Rattle.std.proofs.Common.{◌≡◌, ℕ, ◌+◌, ◌<◌, List, [], ◌∷◌, length, drop, refl, sym, ap, ◌∙◌, subst, arith}
use Rattle.std.proofs.lemmas.List.{drop-drop, length-drop}
use Rattle.fab_base.specs.declared.token.Kind.{Kind}
use Rattle.fab_base.specs.declared.token.Token.{Token}
use Rattle.fab_base.specs.declared.token.Piece.{Piece}
use Rattle.fab_base.specs.declared.token.Piece.TheVariants as p
use Rattle.fab_base.specs.Tokens.{stands, unfit, front_at, Lexes, over, blank, token}
use Rattle.fab_lexer.specs.Cuts.{len_of, Cut, here, further, IsUncut}

-- ---- what the first piece says of the tokens

over_back : {at : ℕ} {us : List Token} → Lexes at [] us → us ≡ []
over_back over = refl
over_back (blank e d) = absurd (cc)
over_back (token e d) = absurd (cc)

blank_back : {at n : ℕ} {bytes : List ℕ} {us : List Token} → front_at bytes ≡ stands (p.Blank n) → Lexes at bytes us → Lexes (at + n) (drop n bytes) us
blank_back h over = absurd (cc)
blank_back {at = at} {n = n} {bytes = bytes} {us = us} h (blank {len = m} e d) =
    let same : m ≡ n = cc in subst (λ x. Lexes (at + x) (drop x bytes) us) same d
blank_back h (token e d) = absurd (cc)

token_back : {at n : ℕ} {kind : Kind} {bytes : List ℕ} {us : List Token} → front_at bytes ≡ stands (p.Spelled kind n) → Lexes at bytes us
    → (vs : List Token) × (us ≡ record { kind = kind; at = at; end = at + n } ∷ vs) × Lexes (at + n) (drop n bytes) vs
token_back h over = absurd (cc)
token_back h (blank e d) = absurd (cc)
token_back {at = at} {n = n} {kind = kind} {bytes = bytes} h (token {len = m} {kind = other} {tokens = vs} e d) =
    let len : m ≡ n = cc in
    let same : other ≡ kind = cc in
    (vs, alike at other kind m n vs same len, subst (λ x. Lexes (at + x) (drop x bytes) vs) len d)
  where
    alike : (at : ℕ) (x y : Kind) (a b : ℕ) (vs : List Token) → x ≡ y → a ≡ b
        → (let t : Token = record { kind = x; at = at; end = at + a } in t ∷ vs) ≡ (record { kind = y; at = at; end = at + b } ∷ vs)
    alike at x y a b vs e f = cc

none_back : {at n : ℕ} {bytes : List ℕ} {us : List Token} → front_at bytes ≡ unfit n → Lexes at bytes us → bytes ≡ []
none_back h over = refl
none_back h (blank e d) = absurd (cc)
none_back h (token e d) = absurd (cc)

-- ---- one list

pub one_list : {at : ℕ} {bytes : List ℕ} {ts us : List Token} → Lexes at bytes ts → Lexes at bytes us → ts ≡ us
one_list over d = sym (over_back d)
one_list (blank e c) d = one_list c (blank_back e d)
one_list (token {at = at} {len = len} {kind = kind} e c) d =
    let x = token_back e d in
    let first : Token = record { kind = kind; at = at; end = at + len } in
    ap (λ z. first ∷ z) (one_list c x.2) ∙ sym x.1

-- ---- one place

pub behind : (bytes : List ℕ) (at n : ℕ) → drop n (drop at bytes) ≡ drop (at + n) bytes
behind bytes at n = drop-drop n at bytes

-- what a text's tokens are from a place on to which one comes
left_behind : (text : List ℕ) {at there : ℕ} {bytes : List ℕ} {us : List Token} → bytes ≡ drop at text → Cut at bytes there → Lexes at bytes us
    → (vs : List Token) × Lexes there (drop there text) vs
left_behind text {at = at} {us = us} q here d = (us, subst (λ x. Lexes at x us) q d)
left_behind text {at = at} q (further {x = p.Blank n} e c) d =
    left_behind text (ap (drop n) q ∙ behind text at n) c (blank_back e d)
left_behind text {at = at} q (further {x = p.Spelled kind n} e c) d =
    left_behind text (ap (drop n) q ∙ behind text at n) c (token_back e d).2

pub no_tokens_behind : (text : List ℕ) (place n : ℕ) → place < length text → Cut 0 text place → front_at (drop place text) ≡ unfit n
    → (ts : List Token) → Lexes 0 text ts → ⊥
no_tokens_behind text place n inside c e ts d =
    let x = left_behind text refl c d in
    let y : length (drop place text) ≡ 0 = ap length (none_back e x.1) in
    omega (arith, inside, y, length-drop place text)

clash : {bytes rest : List ℕ} {x : Piece} {n : ℕ} → bytes ≡ rest → front_at bytes ≡ stands x → front_at rest ≡ unfit n → ⊥
clash q e h = absurd (cc)

one_end : (text : List ℕ) {at a b n m : ℕ} {bytes : List ℕ} → bytes ≡ drop at text → Cut at bytes a → Cut at bytes b
    → front_at (drop a text) ≡ unfit n → front_at (drop b text) ≡ unfit m → a ≡ b
one_end text q here here h k = refl
one_end text q here (further e d) h k = absurd (clash q e h)
one_end text q (further e c) here h k = absurd (clash q e k)
one_end text {at = at} {b = b} {bytes = bytes} q (further {x = x} e c) (further {x = y} f d) h k =
    let same : y ≡ x = cc in
    one_end text (ap (drop (len_of x)) q ∙ behind text at (len_of x)) c (subst (λ z. Cut (at + len_of z) (drop (len_of z) bytes) b) same d) h k

pub one_place : (text : List ℕ) (a b : ℕ) → IsUncut text a → IsUncut text b → a ≡ b
one_place text a b x y =
    let same : x.place ≡ y.place = one_end text refl x.before y.before x.nothing y.nothing in
    let fit : x.fitting ≡ y.fitting = fits_alike (drop x.place text) (drop y.place text) x.fitting y.fitting (ap (λ z. drop z text) same) x.nothing y.nothing in
    omega (arith, same, fit, x.there, y.there)
  where
    fits_alike : (c d : List ℕ) (n m : ℕ) → c ≡ d → front_at c ≡ unfit n → front_at d ≡ unfit m → n ≡ m
    fits_alike c d n m e f g = cc
