-- Primaries, and what stands behind a sign.
use Rattle.std.proofs.Common.{◌≡◌, ◌+◌, ◌⊎◌, inl, inr, ℕ, pos, Bool, IsTrue, List, [], ◌∷◌, ◌++◌, Option, Some, None, refl, sym, ap, ◌∙◌, subst}
use Rattle.std.specs.Prelude.{MatchOption}
use Rattle.fab_base.specs.declared.token.Mark.{Mark}
use Rattle.fab_base.specs.declared.token.Mark.TheVariants as m
use Rattle.fab_base.specs.declared.token.Kind.{Kind}
use Rattle.fab_base.specs.declared.token.Kind.TheVariants as k
use Rattle.fab_base.specs.declared.token.Token.{Token}
use Rattle.fab_tree.specs.declared.name.Name.{Name}
use Rattle.fab_tree.specs.declared.expression.Expression.{Expression}
use Rattle.fab_tree.specs.declared.expression.Form.TheVariants as forms
use Rattle.fab_tree.specs.declared.expression.Number.{Number}
use Rattle.fab_tree.specs.declared.expression.Number.TheVariants as numbers
use Rattle.fab_tree.specs.declared.expression.UnaryOperator.{UnaryOperator}
use Rattle.fab_tree.specs.declared.expression.UnaryOperator.TheVariants as unary
use Rattle.fab_tree.specs.Depth.{room_by}
use Rattle.fab_tree.specs.Lists.{Is, is, IsName, name, IsNumber, int, IsLeast, least_int, numeral, minus, Perhaps, without, with_it}
use Rattle.fab_tree.specs.Marks.{unary_mark, unary_of}
use Rattle.fab_tree.specs.Expressions.{expression_at, placed, IsExpression, chain, no_other, of_or, of_and, of_sum, of_product, alone, IsUnary, primary, signed, least, IsPrimary, number, null, local, read, brackets}
use Rattle.fab_reading.specs.declared.refusal.Refusal.{Refusal}
use Rattle.fab_reading.specs.Reading.{Lacks, Starts, SameHead, Read, Stops, CannotOpen, any, begins_name, begins_numeral, begins_least, first_place}
use Rattle.fab_reading.proofs.Rules.{Then, End, Sign, HasText, Going, start, starts_too, turn, leaf, token_of, never, behind_mark, stop_here, opened}
use Rattle.fab_reading.proofs.ItemRules.{same_starts}
use Rattle.fab_reading.proofs.NumberRules.{least_begins}
use Rattle.fab_expressions.specs.Firsts.{primary_begins, sign_begins, unary_of_mark}
use Rattle.fab_expressions.specs.Pieces.{begins_primary, begins_unary, after_primary}

-- ---- primary = number | "null" | name | name "." name | "(" expression ")"

abbrev pub any_name : Token
any_name = record { kind = k.Name []; at = 0; end = 0 }

abbrev pub any_local : Expression
any_local = expression_at 0 (forms.Local (record { text = []; at = 0 }))

pub primary_text : HasText IsPrimary
primary_text = (any_name ∷ [], any_local, λ after. local (name refl))

pub unary_text : HasText IsUnary
unary_text = (any_name ∷ [], any_local, λ after. primary (local (name refl)))

-- a name alone is an expression
pub expression_text : HasText IsExpression
expression_text = (
  any_name ∷ [],
  any_local,
  λ after. chain (of_or (chain (of_and (alone (chain (of_sum (chain (of_product (primary (local (name refl)))) no_other)) no_other))) no_other)) no_other,
)

number_only : {n : ℕ} {t : Token} {more : List Token} {v : Expression} {after : List Token} → t.kind ≡ k.Number n → IsPrimary (t ∷ more) v after
    → (v ≡ expression_at t.at (forms.Number (numbers.Int (pos n)))) × (after ≡ more)
number_only {n = n} {t = t} e (number (int (numeral {n = i} g h))) =
    let same : i ≡ n = cc in (ap (λ x. expression_at t.at (forms.Number (numbers.Int (pos x)))) same, refl)
number_only e (null (is g)) = absurd (cc)
number_only e (local (name g)) = absurd (cc)
number_only e (read (name g) i p) = absurd (cc)
number_only e (brackets (is g) p i) = absurd (cc)

pub number_read : {room : ℕ} {a b : List Token} {n : Number} → IsNumber a n b → Read IsPrimary after_primary room a (expression_at (first_place a) (forms.Number n)) b
number_read {room = room} (int (numeral e h)) = leaf refl (ap (λ x. room_by x room) e) (λ more. number (int (numeral e h))) (λ more v after d. number_only e d)

null_only : {t : Token} {more : List Token} {v : Expression} {after : List Token} → t.kind ≡ k.Fixed m.Null → IsPrimary (t ∷ more) v after → (v ≡ expression_at t.at forms.Null) × (after ≡ more)
null_only e (number (int (numeral g h))) = absurd (cc)
null_only e (null (is g)) = (refl, refl)
null_only e (local (name g)) = absurd (cc)
null_only e (read (name g) i p) = absurd (cc)
null_only e (brackets (is g) p i) = absurd (cc)

pub null_read : {room : ℕ} {a b : List Token} → Is m.Null a b → Read IsPrimary after_primary room a (expression_at (first_place a) forms.Null) b
null_read {room = room} (is e) = leaf refl (ap (λ x. room_by x room) e) (λ more. null (is e)) (λ more v after d. null_only e d)

-- name ["." name]
abbrev pub variable_of : Name → Option Name → Expression
variable_of x None = expression_at x.at (forms.Local x)
variable_of x (Some y) = expression_at x.at (forms.Read x y)

abbrev pub Variable : List Token → Name × Option Name → List Token → Type 0
Variable = Then IsName (Perhaps m.Dot IsName)

variable_made : {a b c : List Token} {x : Name} {y : Option Name} → IsName a x b → Perhaps m.Dot IsName b y c → IsPrimary a (variable_of x y) c
variable_made p without = local p
variable_made p (with_it i q) = read p i q

variable_back : {a : List Token} {v : Expression} {b : List Token} → Starts begins_name a → IsPrimary a v b → (x : Name × Option Name) × (v ≡ variable_of x.0 x.1) × Variable a x b
variable_back s (number (int (numeral g h))) = absurd (never (subst (λ x. IsTrue (begins_name x)) g s))
variable_back s (null (is g)) = absurd (never (subst (λ x. IsTrue (begins_name x)) g s))
variable_back s (local {b = b} {x = x} p) = ((x, None), refl, record { mid = b; first = p; second = without })
variable_back s (read {b = b} {x = x} {y = y} p i q) = ((x, Some y), refl, record { mid = b; first = p; second = with_it i q })
variable_back s (brackets (is g) p i) = absurd (never (subst (λ x. IsTrue (begins_name x)) g s))

pub variable_start : {room : ℕ} (a : List Token) → Starts begins_name a → Going IsPrimary after_primary room a Variable (λ v. variable_of v.0 v.1) room a
variable_start {room = room} a s = turn (λ v. variable_of v.0 v.1) (start IsPrimary after_primary room a) (λ more v after p. variable_made p.first p.second) (λ more v after same p h. variable_back (same_starts begins_name a more same s) p)

-- "(" expression ")", behind the first bracket
abbrev pub Bracketed : List Token → Expression × (Unit {0} × Unit {0}) → List Token → Type 0
Bracketed = Then IsExpression (Then (Sign m.RightParen) End)

bracket_back : {t : Token} {more : List Token} {v : Expression} {b : List Token} → t.kind ≡ k.Fixed m.LeftParen → IsPrimary (t ∷ more) v b → (x : Expression × (Unit {0} × Unit {0})) × (v ≡ placed t.at x.0) × Bracketed more x b
bracket_back e (number (int (numeral g h))) = absurd (cc)
bracket_back e (null (is g)) = absurd (cc)
bracket_back e (local (name g)) = absurd (cc)
bracket_back e (read (name g) i p) = absurd (cc)
bracket_back e (brackets {c = c} {d = d} {t = v} (is g) p i) = ((v, (tt, tt)), refl, record { mid = c; first = p; second = record { mid = d; first = i; second = refl } })

pub bracket_start : {room inner : ℕ} {a c : List Token} → Is m.LeftParen a c → room ≡ inner + 1 → Going IsPrimary after_primary room a Bracketed (λ v. placed (first_place a) v.0) inner c
bracket_start i e = behind_mark (λ at v. placed at v.0) i (opened m.LeftParen (λ r. refl) e) (λ t g more v after p. subst (λ x. IsPrimary (t ∷ more) (placed t.at v.0) x) p.second.second (brackets (is g) p.first p.second.first)) (λ t g more u after d h. bracket_back g d)

no_primary_begins : (x : Kind) → (IsTrue (begins_numeral x) → ⊥) → (IsTrue (begins_name x) → ⊥) → (x ≡ k.Fixed m.Null → ⊥) → (x ≡ k.Fixed m.LeftParen → ⊥) → IsTrue (begins_primary x) → ⊥
no_primary_begins (k.Number n) i j g h s = i s
no_primary_begins (k.Name x) i j g h s = j s
no_primary_begins (k.Fixed m.Null) i j g h s = g refl
no_primary_begins (k.Fixed m.LeftParen) i j g h s = h refl
no_primary_begins _ i j g h s = never s

no_primary : (a : List Token) → (Starts begins_numeral a → ⊥) → (Starts begins_name a → ⊥) → Lacks m.Null a → Lacks m.LeftParen a → Starts begins_primary a → ⊥
no_primary [] i j g h s = s
no_primary (t ∷ ts) i j g h s = no_primary_begins t.kind i j (λ e. g ts (is e)) (λ e. h ts (is e)) s

bracket_text : (t : Token) → t.kind ≡ k.Fixed m.LeftParen → (more : List Token) × (v : Expression) × ((after : List Token) → IsPrimary (t ∷ (more ++ after)) v after)
unfolding expression_text
bracket_text t e = (any_name ∷ token_of m.RightParen ∷ [], placed t.at any_local, λ after. brackets (is e) (expression_text.2 (token_of m.RightParen ∷ after)) (is refl))

-- nothing opens, or too much
pub bracket_stops : (room : ℕ) (a : List Token) (e : Refusal) → (Starts begins_numeral a → ⊥) → (Starts begins_name a → ⊥) → Lacks m.Null a → CannotOpen m.LeftParen room a e → Stops IsPrimary after_primary room a e
bracket_stops room a e i j g = stop_here after_primary room a m.LeftParen begins_primary primary_begins primary_text (no_primary a i j g) refl bracket_text e

-- ---- unary = primary | sign primary | "-" least

bare_back : {a : List Token} {v : Expression} {b : List Token} → (Starts begins_unary a → ⊥) → IsUnary a v b → (x : Expression) × (v ≡ x) × IsPrimary a x b
bare_back h (primary {t = t} p) = (t, refl, p)
bare_back h (signed {x = x} i p) = absurd (h (sign_begins x i))
bare_back h (least i p) = absurd (h (sign_begins unary.Negative i))

pub bare_start : {room : ℕ} (a : List Token) → (Starts begins_unary a → ⊥) → Going IsUnary after_primary room a IsPrimary (λ v. v) room a
bare_start {room = room} a h =
    turn (λ v. v) (start IsUnary after_primary room a) (λ more v after. primary)
    (λ more v after same p f. bare_back (λ s. h (starts_too begins_unary a more same s)) p)

not_primary : {t : Token} {more : List Token} {v : Expression} {b : List Token} (x : Kind) → (IsTrue (begins_primary x) → ⊥) → t.kind ≡ x → IsPrimary (t ∷ more) v b → ⊥
not_primary x none e p = none (subst (λ y. IsTrue (begins_primary y)) e (primary_begins _ _ _ p))

-- a sign is no primary, and no bracket; it is that of one operator
no_primary_sign : (x : UnaryOperator) → IsTrue (begins_primary (k.Fixed (unary_mark x))) → ⊥
no_primary_sign unary.Negative = never
no_primary_sign unary.Not = never

no_bracket : (x : UnaryOperator) (room : ℕ) → room_by (k.Fixed (unary_mark x)) room ≡ Some room
no_bracket unary.Negative room = refl
no_bracket unary.Not room = refl

same_operator : (x y : UnaryOperator) → k.Fixed (unary_mark x) ≡ k.Fixed (unary_mark y) → x ≡ y
same_operator x y e =
    let marks : unary_mark x ≡ unary_mark y = cc in
    let both : Some x ≡ Some y = sym (unary_of_mark x) ∙ ap unary_of marks ∙ unary_of_mark y in
    cc

-- the operator of a sign, as a token and as the kind of one
pub sign_found : (mark : Mark) (x : Kind) → x ≡ k.Fixed mark → MatchOption (unary_of mark) (IsTrue (begins_unary x) → ⊥) (λ o. x ≡ k.Fixed (unary_mark o))
sign_found m.Minus x e = e
sign_found m.Bang x e = e
sign_found _ x e = λ h. never (subst (λ y. IsTrue (begins_unary y)) e h)

pub sign_at : {a b : List Token} {t : Token} (x : UnaryOperator) → a ≡ t ∷ b → t.kind ≡ k.Fixed (unary_mark x) → Is (unary_mark x) a b
sign_at {b = b} x e h = subst (λ y. Is (unary_mark x) y b) (sym e) (is h)

-- what stands behind a sign: a primary, or behind a minus sign the digits of a least number
pub data IsSigned : UnaryOperator → List Token → Number ⊎ Expression → List Token → Type 0 where
  the_least : {a b : List Token} {n : Number} → IsLeast a n b → IsSigned unary.Negative a (inl n) b
  other : {x : UnaryOperator} {a b : List Token} {t : Expression} → IsPrimary a t b → IsSigned x a (inr t) b

abbrev pub signed_of : UnaryOperator → ℕ → Number ⊎ Expression → Expression
signed_of x at (inl n) = expression_at at (forms.Number n)
signed_of x at (inr t) = expression_at at (forms.Unary x t)

signed_made : {x : UnaryOperator} {t : Token} {a b : List Token} {v : Number ⊎ Expression} → t.kind ≡ k.Fixed (unary_mark x) → IsSigned x a v b → IsUnary (t ∷ a) (signed_of x t.at v) b
signed_made e (the_least p) = least (is e) p
signed_made e (other {x = x} p) = signed {x = x} (is e) p

signed_back : {t : Token} {more : List Token} {v : Expression} {b : List Token} (x : UnaryOperator) → t.kind ≡ k.Fixed (unary_mark x) → IsUnary (t ∷ more) v b
    → (w : Number ⊎ Expression) × (v ≡ signed_of x t.at w) × IsSigned x more w b
signed_back x e (primary p) = absurd (not_primary (k.Fixed (unary_mark x)) (no_primary_sign x) e p)
signed_back {t = t} x e (signed {x = y} {t = s} (is g) p) =
    let same : y ≡ x = same_operator y x (sym g ∙ e) in
    (inr s, ap (λ z. expression_at t.at (forms.Unary z s)) same, other p)
signed_back {more = more} {b = b} x e (least {n = n} (is g) p) =
    let same : unary.Negative ≡ x = same_operator unary.Negative x (sym g ∙ e) in
    (inl n, refl, subst (λ z. IsSigned z more (inl n) b) same (the_least p))

pub signed_start : {room : ℕ} {a c : List Token} (x : UnaryOperator) → Is (unary_mark x) a c
    → Going IsUnary after_primary room a (IsSigned x) (signed_of x (first_place a)) room c
signed_start {room = room} x i =
    behind_mark (signed_of x) i (no_bracket x room) (λ t g more v after. signed_made {x = x} g) (λ t g more u after d h. signed_back x g d)

-- the digits of a least number
least_only : {t : Token} {more after : List Token} {n : Number} → t.kind ≡ k.Least → IsLeast (t ∷ more) n after → (n ≡ numbers.Int (minus 2147483648)) × (after ≡ more)
least_only e (least_int g) = (refl, refl)

pub least_read : {room : ℕ} {a b : List Token} {n : Number} → IsLeast a n b → Read IsLeast any room a n b
least_read {room = room} (least_int e) = leaf refl (ap (λ x. room_by x room) e) (λ more. least_int e) (λ more v after d. least_only e d)

no_primary_here : {a more : List Token} {n : Number} {c : List Token} {v : Expression} {b : List Token} → IsLeast a n c → SameHead a more → IsPrimary more v b → ⊥
no_primary_here {more = []} (least_int e) same p = absurd same
no_primary_here {more = u ∷ us} (least_int e) same p = not_primary k.Least never (ap (λ x. x.kind) (sym same) ∙ e) p

least_back : {x : UnaryOperator} {a more : List Token} {n : Number} {c : List Token} {v : Number ⊎ Expression} {b : List Token} → IsLeast a n c → SameHead a more → IsSigned x more v b
    → (w : Number × Unit {0}) × (v ≡ inl w.0) × Then IsLeast End more w b
least_back l same (the_least {b = b} {n = n} p) = ((n, tt), refl, record { mid = b; first = p; second = refl })
least_back l same (other p) = absurd (no_primary_here l same p)

other_back : {x : UnaryOperator} {more : List Token} {v : Number ⊎ Expression} {b : List Token} (a : List Token) → (x ≡ unary.Negative → Starts begins_least a → ⊥)
    → SameHead a more → IsSigned x more v b → (w : Expression) × (v ≡ inr w) × IsPrimary more w b
other_back {more = more} a h same (the_least p) = absurd (h refl (starts_too begins_least a more same (least_begins p)))
other_back a h same (other {t = t} p) = (t, refl, p)

module _ {A : Type 0} {R : List Token → A → List Token → Type 0} {may : Kind → Bool} {room : ℕ} {a : List Token} {f : Number ⊎ Expression → A} {left : ℕ} {b : List Token} (x : UnaryOperator)
    (r : Going R may room a (IsSigned x) f left b) where
  least_made : x ≡ unary.Negative → (more : List Token) (v : Number × Unit {0}) (after : List Token) → Then IsLeast End more v after → IsSigned x more (inl v.0) after
  least_made e more v after p =
      subst (λ z. IsSigned z more (inl v.0) after) (sym e) (subst (λ y. IsSigned unary.Negative more (inl v.0) y) p.second (the_least p.first))

  pub least_start : {c : List Token} {n : Number} → IsLeast b n c × (x ≡ unary.Negative) → Going R may room a (Then IsLeast End) (λ v. f (inl v.0)) left b
  least_start l = turn (λ v. inl v.0) r (least_made l.1) (λ more v after same p i. least_back l.0 same p)

  pub other_start : (x ≡ unary.Negative → Starts begins_least b → ⊥) → Going R may room a IsPrimary (λ v. f (inr v)) left b
  other_start h = turn (λ v. inr v) r (λ more v after. other) (λ more v after same p i. other_back b h same p)
