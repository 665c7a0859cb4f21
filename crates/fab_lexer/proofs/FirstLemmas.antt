-- A keyword is found among those with the first byte of a word.
use Rattle.std.proofs.Common.{◌≡◌, ℕ, ◌≤◌, Bool, true, false, cond, List, [], ◌∷◌, length, Option, Some, refl, sym, ap, ◌∙◌, subst, arith, find, filter, nat_eq, slice_index}
use Rattle.std.specs.List.{starts_with}
use Rattle.std.specs.Str.{bytes_eq}
use Rattle.std.specs.Cmp.{first_so}
use Rattle.std.proofs.lemmas.Bool.{and_from, eqb-true, eq-eqb}
use Rattle.fab_base.specs.declared.token.Mark.{Mark}
use Rattle.fab_base.specs.Tokens.{mark_text, keywords, keyword_of}
use Rattle.fab_lexer.specs.Firsts.{is_begun_by, begun_by}

module _ {X : Type 0} (p q : X → Bool) (h : (x : X) → p x ≡ true → q x ≡ true) where
  found_step : (x : X) (xs : List X) (a b : Bool) → p x ≡ a → q x ≡ b → find p (filter q xs) ≡ find p xs
      → find p (cond b (x ∷ filter q xs) (filter q xs)) ≡ cond a (Some x) (find p xs)
  found_step x xs true true e d same = rw e refl
  found_step x xs true false e d same = let passes = h x e in absurd (cc)
  found_step x xs false true e d same = rw e same
  found_step x xs false false e d same = same

  -- what passes one test is found among those that pass another, which it has to pass
  found_among : (xs : List X) → find p (filter q xs) ≡ find p xs
  found_among [] = refl
  found_among (x ∷ xs) = found_step x xs (p x) (q x) refl refl (found_among xs)

-- a word begins with the first byte of its spelling
equal_begin : (t : List ℕ) (f : ℕ) (rest : List ℕ) → bytes_eq t (f ∷ rest) ≡ true → starts_with nat_eq t (f ∷ []) ≡ true
equal_begin [] f rest e = absurd (cc)
equal_begin (c ∷ cs) f rest e = and_from (nat_eq f c) true (eq-eqb f c (sym (eqb-true c f (first_so (nat_eq c f) (bytes_eq cs rest) e)))) refl

keyword_among : (word : List ℕ) → 1 ≤ length word → find (λ x. bytes_eq (mark_text x) word) (begun_by (slice_index word 0) keywords) ≡ keyword_of word
keyword_among [] h = absurd (omega (arith, h))
keyword_among (f ∷ rest) h =
    found_among (λ x. bytes_eq (mark_text x) (f ∷ rest)) (is_begun_by f) (λ x e. equal_begin (mark_text x) f rest e) keywords

-- the keyword that calls find, for a word and its bytes
pub keyword_found : (word bytes : List ℕ) (marks : List Mark) (found : Option Mark) → bytes ≡ word → 1 ≤ length bytes
    → marks ≡ begun_by (slice_index bytes 0) keywords → found ≡ find (λ x. bytes_eq (mark_text x) word) marks → found ≡ keyword_of word
keyword_found word bytes marks found same h e d =
    let among = keyword_among bytes h in
    d ∙ ap (find (λ x. bytes_eq (mark_text x) word)) e
    ∙ subst (λ w. find (λ x. bytes_eq (mark_text x) w) (begun_by (slice_index bytes 0) keywords) ≡ keyword_of w) same among
