-- Numbers and literals, part by part.
use Rattle.std.proofs.Common.{◌≡◌, ℕ, pos, IsTrue, List, [], ◌∷◌, ◌++◌, length, Some, refl, sym, ap, subst, ◌∙◌, append_assoc, arith}
use Rattle.fab_base.specs.declared.token.Mark.TheVariants as m
use Rattle.fab_base.specs.declared.token.Kind.{Kind}
use Rattle.fab_base.specs.declared.token.Kind.TheVariants as k
use Rattle.fab_base.specs.declared.token.Token.{Token}
use Rattle.fab_tree.specs.declared.name.Name.{Name}
use Rattle.fab_tree.specs.declared.expression.Number.{Number}
use Rattle.fab_tree.specs.declared.expression.Number.TheVariants as numbers
use Rattle.fab_tree.specs.declared.start.Literal.{Literal}
use Rattle.fab_tree.specs.declared.start.Literal.TheVariants as literals
use Rattle.fab_tree.specs.declared.start.Given.{Given}
use Rattle.fab_reading.specs.declared.refusal.Refusal.{Refusal}
use Rattle.fab_reading.specs.declared.refusal.Refusal.TheVariants as refusal
use Rattle.fab_tree.specs.Depth.{room_by, room_after}
use Rattle.fab_tree.specs.Lists.{Is, is, IsName, name, IsNumeral, numeral, IsNumber, int, least_int, minus}
use Rattle.fab_tree.specs.Runs.{IsNegated, negative, least, IsLiteral, number, negated, null, root, IsGiven, given}
use Rattle.fab_reading.specs.Reading.{Lacks, Starts, Read, Refused, Deep, Stops, SameHead, Follows, any, begins_name, begins_numeral, begins_negated, begins_literal}
use Rattle.fab_bundle.specs.Firsts.{numeral_begins, negated_begins, literal_begins}
use Rattle.fab_reading.proofs.ItemRules.{same_starts}
use Rattle.fab_reading.proofs.Rules.{HasText, Going, start, turn, behind_mark, leaf, token_of, never, here}

-- ---- numbers

numeral_only : {n j : ℕ} {t : Token} {more after : List Token} → t.kind ≡ k.Number n → IsNumeral (t ∷ more) j after → (j ≡ n) × (after ≡ more)
numeral_only e (numeral g h) = (cc, refl)

pub numeral_read : {room n : ℕ} {a b : List Token} → IsNumeral a n b → Read IsNumeral any room a n b
numeral_read {room = room} (numeral e h) = leaf refl (ap (λ x. room_by x room) e) (λ more. numeral e h) (λ more v after d. numeral_only e d)

pub numeral_text : HasText IsNumeral
numeral_text = (record { kind = k.Number 0; at = 0; end = 0 } ∷ [], 0, λ after. numeral refl (omega arith))

pub numeral_refused : {room : ℕ} (a : List Token) → (Starts begins_numeral a → ⊥) → Refused IsNumeral any room a (length a)
numeral_refused a none = here begins_numeral numeral_begins numeral_text none

negated_only : {n : ℕ} {t : Token} {more after : List Token} {v : Number} → t.kind ≡ k.Number n → IsNegated (t ∷ more) v after → (v ≡ numbers.Int (minus n)) × (after ≡ more)
negated_only e (negative p) = let x = numeral_only e p in (ap (λ y. numbers.Int (minus y)) x.0, x.1)
negated_only e (least (least_int g)) = absurd (cc)

least_only : {t : Token} {more after : List Token} {v : Number} → t.kind ≡ k.Least → IsNegated (t ∷ more) v after → (v ≡ numbers.Int (minus 2147483648)) × (after ≡ more)
least_only e (negative (numeral g h)) = absurd (cc)
least_only e (least (least_int g)) = (refl, refl)

-- a number behind a minus sign
pub negated_read : {room : ℕ} {a b : List Token} {n : Number} → IsNegated a n b → Read IsNegated any room a n b
negated_read {room = room} (negative (numeral e h)) = leaf refl (ap (λ x. room_by x room) e) (λ more. negative (numeral e h)) (λ more v after d. negated_only e d)
negated_read {room = room} (least (least_int e)) = leaf refl (ap (λ x. room_by x room) e) (λ more. least (least_int e)) (λ more v after d. least_only e d)

pub negated_text : HasText IsNegated
negated_text = (record { kind = k.Least; at = 0; end = 0 } ∷ [], numbers.Int (minus 2147483648), λ after. least (least_int refl))

pub negated_refused : {room : ℕ} (a : List Token) → (Starts begins_negated a → ⊥) → Refused IsNegated any room a (length a)
negated_refused a none = here begins_negated negated_begins negated_text none

-- ---- literals

number_only : {n : ℕ} {t : Token} {more after : List Token} {v : Literal} → t.kind ≡ k.Number n → IsLiteral (t ∷ more) v after → (v ≡ literals.Number (numbers.Int (pos n))) × (after ≡ more)
number_only e (number (int p)) = let x = numeral_only e p in (ap (λ y. literals.Number (numbers.Int (pos y))) x.0, x.1)
number_only e (negated (is g) p) = absurd (cc)
number_only e (null (is g)) = absurd (cc)
number_only e (root (name g)) = absurd (cc)

pub number_read : {room : ℕ} {a b : List Token} {n : Number} → IsNumber a n b → Read IsLiteral any room a (literals.Number n) b
number_read {room = room} (int (numeral e h)) = leaf refl (ap (λ x. room_by x room) e) (λ more. number (int (numeral e h))) (λ more v after d. number_only e d)

null_only : {t : Token} {more after : List Token} {v : Literal} → t.kind ≡ k.Fixed m.Null → IsLiteral (t ∷ more) v after → (v ≡ literals.Null) × (after ≡ more)
null_only e (number (int (numeral g h))) = absurd (cc)
null_only e (negated (is g) p) = absurd (cc)
null_only e (null (is g)) = (refl, refl)
null_only e (root (name g)) = absurd (cc)

pub null_read : {room : ℕ} {a b : List Token} → Is m.Null a b → Read IsLiteral any room a literals.Null b
null_read {room = room} (is e) = leaf refl (ap (λ x. room_by x room) e) (λ more. null (is e)) (λ more v after d. null_only e d)

negated_back : {t : Token} {a : List Token} {v : Literal} {b : List Token} → t.kind ≡ k.Fixed m.Minus → IsLiteral (t ∷ a) v b
    → (x : Number) × (v ≡ literals.Number x) × IsNegated a x b
negated_back e (number (int (numeral g h))) = absurd (cc)
negated_back e (negated {n = n} (is g) p) = (n, refl, p)
negated_back e (null (is g)) = absurd (cc)
negated_back e (root (name g)) = absurd (cc)

pub negated_start : {room : ℕ} {a c : List Token} → Is m.Minus a c → Going IsLiteral any room a IsNegated literals.Number room c
negated_start i = behind_mark (λ at. literals.Number) i refl (λ t e more v after p. negated (is e) p) (λ t e more u after d h. negated_back e d)

named_back : {a : List Token} {v : Literal} {b : List Token} → Starts begins_name a → IsLiteral a v b → (y : Name) × (v ≡ literals.Root y) × IsName a y b
named_back s (number (int (numeral g h))) = absurd (never (subst (λ x. IsTrue (begins_name x)) g s))
named_back s (negated (is g) p) = absurd (never (subst (λ x. IsTrue (begins_name x)) g s))
named_back s (null (is g)) = absurd (never (subst (λ x. IsTrue (begins_name x)) g s))
named_back s (root {x = y} p) = (y, refl, p)

pub named_start : {room : ℕ} (a : List Token) → Starts begins_name a → Going IsLiteral any room a IsName literals.Root room a
named_start {room = room} a s = turn literals.Root (start IsLiteral any room a) (λ more v after. root) (λ more v after same d f. named_back (same_starts begins_name a more same s) d)

pub literal_text : HasText IsLiteral
literal_text = (token_of m.Null ∷ [], literals.Null, λ after. null (is refl))

-- no number, no sign, no name: no literal
no_literal_begins : (x : Kind) → (IsTrue (begins_numeral x) → ⊥) → (x ≡ k.Fixed m.Minus → ⊥) → (x ≡ k.Fixed m.Null → ⊥) → (IsTrue (begins_name x) → ⊥) → IsTrue (begins_literal x) → ⊥
no_literal_begins (k.Number n) i g h j l = i l
no_literal_begins (k.Fixed m.Minus) i g h j l = g refl
no_literal_begins (k.Fixed m.Null) i g h j l = h refl
no_literal_begins (k.Name y) i g h j l = j l
no_literal_begins _ i g h j l = never l

no_literal_starts : (a : List Token) → (Starts begins_numeral a → ⊥) → Lacks m.Minus a → Lacks m.Null a → (Starts begins_name a → ⊥) → Starts begins_literal a → ⊥
no_literal_starts [] i g h j l = l
no_literal_starts (t ∷ ts) i g h j l = no_literal_begins t.kind i (λ e. g ts (is e)) (λ e. h ts (is e)) j l

pub literal_refused : {room : ℕ} (a : List Token) → (Starts begins_numeral a → ⊥) → Lacks m.Minus a → Lacks m.Null a → (Starts begins_name a → ⊥) → Refused IsLiteral any room a (length a)
literal_refused a i g h j = here begins_literal literal_begins literal_text (no_literal_starts a i g h j)

-- ---- literals with their places

abbrev pub given_at : ℕ → Literal → Given
given_at at x = record { literal = x; at = at }

given_back : {t : Token} {more : List Token} {v : Given} {b : List Token} → IsGiven (t ∷ more) v b → (x : Literal) × (v ≡ given_at t.at x) × IsLiteral (t ∷ more) x b
given_back (given {x = x} p) = (x, refl, p)

literal_of : {a b : List Token} {v : Given} → IsGiven a v b → IsLiteral a v.literal b
literal_of (given p) = p

no_literal : {x : Literal} {b : List Token} → IsLiteral [] x b → ⊥
no_literal (number (int p)) = elim p [ ]
no_literal (negated i p) = elim i [ ]
no_literal (null i) = elim i [ ]
no_literal (root p) = elim p [ ]

-- what is read as a literal is read as one with its place
pub given_read : {room : ℕ} {a b c : List Token} {t : Token} {x : Literal} → a ≡ t ∷ c → Read IsLiteral any room a x b → Read IsGiven any room a (given_at t.at x) b
given_read {room = room} {a = a} {b = b} {c = c} {t = t} {x = x} e r = go r.front r.cut r.level r.reads r.only
  where
    same_token : (u : Token) (p : List Token) → a ≡ u ∷ p → u ≡ t
    same_token u p f = let two : u ∷ p ≡ t ∷ c = sym f ∙ e in cc

    go : (p : List Token) → a ≡ p ++ b → room_after p room ≡ Some room → ((more : List Token) → IsLiteral (p ++ more) x more) → ((more : List Token) → SameHead b more → (u : Literal) (after : List Token) → IsLiteral (p ++ more) u after → Follows any after → (u ≡ x) × (after ≡ more)) → Read IsGiven any room a (given_at t.at x) b
    go [] cut level reads only = absurd (no_literal (reads []))
    go (u ∷ p) cut level reads only = let same : u ≡ t = same_token u (p ++ b) cut in record {
      front = u ∷ p;
      cut = cut;
      level = level;
      reads = λ more. subst (λ z. IsGiven (u ∷ (p ++ more)) (given_at z.at x) more) same (given (reads more));
      only = λ more sh v after d h.
          let y = given_back d in
          let z = only more sh y.0 after y.2 h in
          (y.1 ∙ ap (given_at u.at) z.0 ∙ ap (λ w. given_at w.at x) same, z.1);
    }

-- the place is that of the first token, whatever follows
placed : (front more : List Token) (x : Literal) → ((after : List Token) → IsLiteral (front ++ (more ++ after)) x after) → (v : Given) × ((after : List Token) → IsGiven (front ++ (more ++ after)) v after)
placed (t ∷ front) more x d = (given_at t.at x, λ after. given (d after))
placed [] (t ∷ more) x d = (given_at t.at x, λ after. given (d after))
placed [] [] x d = absurd (no_literal (d []))

pub given_refused : {room left : ℕ} {a : List Token} → Refused IsLiteral any room a left → Refused IsGiven any room a left
given_refused r = let some = placed r.front r.begins.0 r.begins.1 r.begins.2 in record {
  front = r.front;
  back = r.back;
  cut = r.cut;
  left_is = r.left_is;
  level = r.level;
  begins = (r.begins.0, some.0, some.1);
  bad = λ more same v after d h. r.bad more same v.literal after (literal_of d) h;
}

pub given_deep : {room left : ℕ} {a : List Token} → Deep IsLiteral room a left → Deep IsGiven room a left
given_deep r = let some = placed (r.front ++ r.next ∷ []) r.begins.0 r.begins.1 (λ after. subst (λ z. IsLiteral z r.begins.1 after) (sym (append_assoc r.front (r.next ∷ []) (r.begins.0 ++ after))) (r.begins.2 after)) in record {
  front = r.front;
  next = r.next;
  back = r.back;
  cut = r.cut;
  left_is = r.left_is;
  level = r.level;
  opens = r.opens;
  begins = (r.begins.0, some.0, λ after. subst (λ z. IsGiven z some.0 after) (append_assoc r.front (r.next ∷ []) (r.begins.0 ++ after)) (some.1 after));
}

pub given_stops : (room : ℕ) (a : List Token) (e : Refusal) → Stops IsLiteral any room a e → Stops IsGiven any room a e
given_stops room a refusal.Memory r = tt
given_stops room a (refusal.Syntax left) r = given_refused r
given_stops room a (refusal.Deep left) r = given_deep r

pub given_text : HasText IsGiven
given_text = (token_of m.Null ∷ [], given_at 0 literals.Null, λ after. given (null (is refl)))
