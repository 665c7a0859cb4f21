-- What is assigned, part by part.
use Rattle.std.proofs.Common.{IsTrue, List, [], ap, refl, subst, sym, ℕ, ◌∙◌, ◌∷◌, ◌≡◌}
use Rattle.fab_base.specs.declared.token.Kind.{Kind}
use Rattle.fab_base.specs.declared.token.Kind.TheVariants as k
use Rattle.fab_base.specs.declared.token.Mark.{Mark}
use Rattle.fab_base.specs.declared.token.Mark.TheVariants as m
use Rattle.fab_base.specs.declared.token.Token.{Token}
use Rattle.fab_tree.specs.declared.expression.Comparison.{Comparison}
use Rattle.fab_tree.specs.declared.expression.Expression.{Expression}
use Rattle.fab_tree.specs.declared.expression.Form.TheVariants as fx
use Rattle.fab_tree.specs.declared.expression.Level.{Level}
use Rattle.fab_tree.specs.declared.expression.Level.TheVariants as level
use Rattle.fab_tree.specs.declared.expression.Operand.{Operand}
use Rattle.fab_tree.specs.declared.expression.Operator.{Operator}
use Rattle.fab_tree.specs.declared.name.Name.{Name}
use Rattle.fab_tree.specs.declared.statement.Downgrade.{Downgrade}
use Rattle.fab_tree.specs.declared.statement.Downgrade.TheVariants as downgrades
use Rattle.fab_tree.specs.declared.statement.Right.{Right}
use Rattle.fab_tree.specs.declared.statement.Right.TheVariants as rights
use Rattle.fab_tree.specs.Expressions.{IsArguments, IsExpression, expression_at}
use Rattle.fab_tree.specs.Expressions as fex
use Rattle.fab_tree.specs.Lists.{Is, IsName, int, is, name, none, numeral}
use Rattle.fab_tree.specs.Statements.{IsDowngrade, IsRight, call, declassify, downgrade, endorse, new, plain}
use Rattle.fab_reading.specs.Reading.{BeginsWith, Follows, Lacks, Read, SameHead, Starts, Stops, any, begins_name, first_place}
use Rattle.fab_reading.specs.declared.refusal.Refusal.{Refusal}
use Rattle.fab_reading.specs.declared.refusal.Refusal.TheVariants as refusal
use Rattle.fab_reading.proofs.ListRules.{weaker}
use Rattle.fab_reading.proofs.Rules.{Going, HasText, SameTwo, Sign, Then, begins_at, begins_too, followed, lacks_too, never, starts_too, token_of}
use Rattle.fab_reading.proofs.TokenRules.{name_only}
use Rattle.fab_expressions.specs.Firsts.{expression_begins}
use Rattle.fab_expressions.specs.Pieces.{after_expression, begins_expression}
use Rattle.fab_parser.specs.Pieces.{BeginsCall, Bracketed, IsCalled, IsCreated, IsLowered, after_right, begins_arguments, begins_downgrade, bracketed, called, created, lowered}
use Rattle.fab_parser.proofs.Chains.{chain}
use Rattle.fab_parser.proofs.PartRules.{behind_part, behind_word, chosen, chosen_deep, chosen_refused, read_here, two_heads}

-- ---- expressions

abbrev pub any_name : Token
any_name = record { kind = k.Name []; at = 0; end = 0 }

-- a local, as a token
abbrev pub local_at : ℕ → List ℕ → Expression
local_at at x = expression_at at (fx.Local (record { text = x; at = at }))

pub name_expression : {t : Token} {x : List ℕ} → t.kind ≡ k.Name x → (after : List Token) → IsExpression (t ∷ after) (local_at t.at x) after
name_expression e after = fex.chain (fex.of_or (fex.chain (fex.of_and (fex.alone (fex.chain (fex.of_sum (fex.chain (fex.of_product (fex.primary (fex.local (name e)))) fex.no_other)) fex.no_other))) fex.no_other)) fex.no_other

pub expression_text : HasText IsExpression
expression_text = (any_name ∷ [], local_at 0 [], name_expression refl)

pub given_text : HasText (Bracketed IsArguments)
given_text = (token_of m.LeftParen ∷ token_of m.RightParen ∷ [], [], λ after. bracketed (is refl) none (is refl))

-- ---- a name before an opening bracket is an expression by itself

no_operator : {l : Level} {a : List Token} {x : Operator} {b : List Token} → BeginsWith m.LeftParen a → fex.IsOperator l a x b → ⊥
no_operator e (fex.bar (is g)) = absurd (cc)
no_operator e (fex.ampersand (is g)) = absurd (cc)
no_operator e (fex.plus (is g)) = absurd (cc)
no_operator e (fex.dash (is g)) = absurd (cc)
no_operator e (fex.star (is g)) = absurd (cc)
no_operator e (fex.slash (is g)) = absurd (cc)

no_comparison : {a : List Token} {x : Comparison} {b : List Token} → BeginsWith m.LeftParen a → fex.IsComparison a x b → ⊥
no_comparison e (fex.equal (is g)) = absurd (cc)
no_comparison e (fex.not_equal (is g)) = absurd (cc)
no_comparison e (fex.less (is g)) = absurd (cc)
no_comparison e (fex.less_equal (is g)) = absurd (cc)
no_comparison e (fex.greater (is g)) = absurd (cc)
no_comparison e (fex.greater_equal (is g)) = absurd (cc)

no_dot : {a b : List Token} → BeginsWith m.LeftParen a → Is m.Dot a b → ⊥
no_dot e (is g) = absurd (cc)

no_others : {l : Level} {a b c : List Token} {us : List Operand} → BeginsWith m.LeftParen c → a ≡ c → fex.IsOthers l a us b → b ≡ c
no_others h e fex.no_other = e
no_others h e (fex.one_other i p q) = absurd (no_operator (subst (λ x. BeginsWith m.LeftParen x) (sym e) h) i)

primary_alone : {t : Token} {x : List ℕ} {more : List Token} {u : Expression} {b : List Token} → t.kind ≡ k.Name x → BeginsWith m.LeftParen more → fex.IsPrimary (t ∷ more) u b → b ≡ more
primary_alone e h (fex.number (int (numeral g i))) = absurd (cc)
primary_alone e h (fex.null (is g)) = absurd (cc)
primary_alone e h (fex.local (name g)) = refl
primary_alone e h (fex.read (name g) i p) = absurd (no_dot h i)
primary_alone e h (fex.brackets (is g) p i) = absurd (cc)

unary_alone : {t : Token} {x : List ℕ} {more : List Token} {u : Expression} {b : List Token} → t.kind ≡ k.Name x → BeginsWith m.LeftParen more → fex.IsUnary (t ∷ more) u b → b ≡ more
unary_alone e h (fex.primary p) = primary_alone e h p
unary_alone e h (fex.signed (is g) p) = absurd (cc)
unary_alone e h (fex.least (is g) p) = absurd (cc)

product_alone : {t : Token} {x : List ℕ} {more : List Token} {u : Expression} {b : List Token} → t.kind ≡ k.Name x → BeginsWith m.LeftParen more → fex.IsChain level.Product (t ∷ more) u b → b ≡ more
product_alone e h (fex.chain (fex.of_product p) q) = no_others h (unary_alone e h p) q

sum_alone : {t : Token} {x : List ℕ} {more : List Token} {u : Expression} {b : List Token} → t.kind ≡ k.Name x → BeginsWith m.LeftParen more → fex.IsChain level.Sum (t ∷ more) u b → b ≡ more
sum_alone e h (fex.chain (fex.of_sum p) q) = no_others h (product_alone e h p) q

compared_alone : {t : Token} {x : List ℕ} {more : List Token} {u : Expression} {b : List Token} → t.kind ≡ k.Name x → BeginsWith m.LeftParen more → fex.IsCompared (t ∷ more) u b → b ≡ more
compared_alone e h (fex.alone p) = sum_alone e h p
compared_alone e h (fex.compared p i q) = absurd (no_comparison (subst (λ x. BeginsWith m.LeftParen x) (sym (sum_alone e h p)) h) i)

and_alone : {t : Token} {x : List ℕ} {more : List Token} {u : Expression} {b : List Token} → t.kind ≡ k.Name x → BeginsWith m.LeftParen more → fex.IsChain level.And (t ∷ more) u b → b ≡ more
and_alone e h (fex.chain (fex.of_and p) q) = no_others h (compared_alone e h p) q

name_alone : {t : Token} {x : List ℕ} {more : List Token} {u : Expression} {b : List Token} → t.kind ≡ k.Name x → BeginsWith m.LeftParen more → IsExpression (t ∷ more) u b → b ≡ more
name_alone e h (fex.chain (fex.of_or p) q) = no_others h (and_alone e h p) q

-- ---- name "@" name "(" arguments ")"

abbrev pub CreatedParts : Type 0
CreatedParts = Name × (Unit {0} × (Name × List Expression))

abbrev pub created_of : ℕ → CreatedParts → Right
created_of at v = rights.New v.0 v.1.1.0 v.1.1.1 at

abbrev pub CreatedChain : List Token → CreatedParts → List Token → Type 0
CreatedChain = Then IsName (Then (Sign m.At) (Then IsName (Bracketed IsArguments)))

created_back : {at : ℕ} (a : List Token) (v : Right) (b : List Token) → IsCreated at a v b → (w : CreatedParts) × (v ≡ created_of at w) × CreatedChain a w b
created_back a v b (created {x = x} {y = y} {ts = ts} p q r s) = ((x, (tt, (y, ts))), refl, followed _ p (followed _ q (followed _ r s)))

pub created_start : {at room : ℕ} (a : List Token) → Going (IsCreated at) any room a CreatedChain (created_of at) room a
created_start {at = at} = chain (created_of at) (λ more v after p. let q = p.second in let r = q.second in created p.first q.first r.first r.second) created_back

-- ---- "(" expression "," name "to" name ")"

abbrev pub LoweredParts : Type 0
LoweredParts = Unit {0} × (Expression × (Unit {0} × (Name × (Unit {0} × (Name × Unit {0})))))

abbrev pub lowered_of : Downgrade → ℕ → LoweredParts → Right
lowered_of w at v = rights.Downgrade w v.1.0 v.1.1.1.0 v.1.1.1.1.1.0 at

abbrev pub LoweredChain : List Token → LoweredParts → List Token → Type 0
LoweredChain = Then (Sign m.LeftParen) (Then IsExpression (Then (Sign m.Comma) (Then IsName (Then (Sign m.To) (Then IsName (Sign m.RightParen))))))

lowered_back : {w : Downgrade} {at : ℕ} (a : List Token) (v : Right) (b : List Token) → IsLowered w at a v b
    → (z : LoweredParts) × (v ≡ lowered_of w at z) × LoweredChain a z b
lowered_back a v b (lowered {t = t} {x = x} {y = y} p q r s u l o) =
    ((tt, (t, (tt, (x, (tt, (y, tt)))))), refl, followed _ p (followed _ q (followed _ r (followed _ s (followed _ u (followed _ l o))))))

pub lowered_start : {w : Downgrade} {at room : ℕ} (a : List Token) → Going (IsLowered w at) any room a LoweredChain (lowered_of w at) room a
lowered_start {w = w} {at = at} =
    chain (lowered_of w at)
    (λ more v after p. let p1 = p.second in let p2 = p1.second in let p3 = p2.second in let p4 = p3.second in let p5 = p4.second in
    lowered p.first p1.first p2.first p3.first p4.first p5.first p5.second)
    lowered_back

-- ---- "(" arguments ")"

called_back : {x : Name} (a : List Token) (v : Right) (b : List Token) → IsCalled x a v b → (w : List Expression) × (v ≡ rights.Call x w) × Bracketed IsArguments a w b
called_back a v b (called {ts = ts} p) = (ts, refl, p)

pub called_start : {x : Name} {room : ℕ} (a : List Token) → Going (IsCalled x) any room a (Bracketed IsArguments) (rights.Call x) room a
called_start {x = x} = chain (rights.Call x) (λ more v after p. called p) called_back

-- ---- which right side comes

no_expression : {t : Token} {more : List Token} {u : Expression} {b : List Token} {mark : Mark} → t.kind ≡ k.Fixed mark → (IsTrue (begins_expression (k.Fixed mark)) → ⊥) → IsExpression (t ∷ more) u b → ⊥
no_expression e none_of p = none_of (subst (λ x. IsTrue (begins_expression x)) e (expression_begins _ _ _ p))

created_made : {t : Token} {more : List Token} {v : Right} {after : List Token} → t.kind ≡ k.Fixed m.New → IsCreated t.at more v after → IsRight (t ∷ more) v after
created_made e (created p i q (bracketed j r l)) = new (is e) p i q j r l

created_from : {t : Token} {more : List Token} {u : Right} {after : List Token} → t.kind ≡ k.Fixed m.New → IsRight (t ∷ more) u after → IsCreated t.at more u after
created_from e (plain p) = absurd (no_expression e never p)
created_from e (call (name g) i p j) = absurd (cc)
created_from e (new (is g) p i q j r l) = created p i q (bracketed j r l)
created_from e (downgrade (declassify (is g)) i p j q l r o) = absurd (cc)
created_from e (downgrade (endorse (is g)) i p j q l r o) = absurd (cc)

pub right_created : {room at : ℕ} {a c : List Token} → at ≡ first_place a → Is m.New a c → Going IsRight after_right room a (IsCreated at) (λ v. v) room c
right_created e i = behind_word (λ at. IsCreated at) e i refl (λ t g more v after. created_made g) (λ t g more u after. created_from g)

lowered_made : {w : Downgrade} {t : Token} {more : List Token} {v : Right} {after : List Token} → IsDowngrade (t ∷ more) w more → IsLowered w t.at more v after → IsRight (t ∷ more) v after
lowered_made d (lowered i p j q l r o) = downgrade d i p j q l r o

declassify_from : {t : Token} {more : List Token} {u : Right} {after : List Token} → t.kind ≡ k.Fixed m.Declassify → IsRight (t ∷ more) u after → IsLowered downgrades.Declassify t.at more u after
declassify_from e (plain p) = absurd (no_expression e never p)
declassify_from e (call (name g) i p j) = absurd (cc)
declassify_from e (new (is g) p i q j r l) = absurd (cc)
declassify_from e (downgrade (declassify (is g)) i p j q l r o) = lowered i p j q l r o
declassify_from e (downgrade (endorse (is g)) i p j q l r o) = absurd (cc)

endorse_from : {t : Token} {more : List Token} {u : Right} {after : List Token} → t.kind ≡ k.Fixed m.Endorse → IsRight (t ∷ more) u after → IsLowered downgrades.Endorse t.at more u after
endorse_from e (plain p) = absurd (no_expression e never p)
endorse_from e (call (name g) i p j) = absurd (cc)
endorse_from e (new (is g) p i q j r l) = absurd (cc)
endorse_from e (downgrade (declassify (is g)) i p j q l r o) = absurd (cc)
endorse_from e (downgrade (endorse (is g)) i p j q l r o) = lowered i p j q l r o

pub right_lowered : {room at : ℕ} {a c : List Token} {w : Downgrade} → at ≡ first_place a → IsDowngrade a w c → Going IsRight after_right room a (IsLowered w at) (λ v. v) room c
right_lowered e (declassify i) = behind_word (λ at. IsLowered downgrades.Declassify at) e i refl (λ t g more v after. lowered_made (declassify (is g))) (λ t g more u after. declassify_from g)
right_lowered e (endorse i) = behind_word (λ at. IsLowered downgrades.Endorse at) e i refl (λ t g more v after. lowered_made (endorse (is g))) (λ t g more u after. endorse_from g)

downgrade_begins : {a : List Token} {w : Downgrade} {b : List Token} → IsDowngrade a w b → Starts begins_downgrade a
downgrade_begins (declassify (is e)) = subst (λ x. IsTrue (begins_downgrade x)) (sym e) refl
downgrade_begins (endorse (is e)) = subst (λ x. IsTrue (begins_downgrade x)) (sym e) refl

no_word : (x : Kind) → (x ≡ k.Fixed m.Declassify → ⊥) → (x ≡ k.Fixed m.Endorse → ⊥) → IsTrue (begins_downgrade x) → ⊥
no_word (k.Fixed m.Declassify) g h s = g refl
no_word (k.Fixed m.Endorse) g h s = h refl
no_word _ g h s = never s

pub no_downgrade : (a : List Token) → Lacks m.Declassify a → Lacks m.Endorse a → Starts begins_downgrade a → ⊥
no_downgrade [] g h s = s
no_downgrade (t ∷ ts) g h s = no_word t.kind (λ e. g ts (is e)) (λ e. h ts (is e)) s

-- ---- calls

pub call_begins : {a b c : List Token} {t : Token} → a ≡ t ∷ b → Starts begins_name a → Is m.LeftParen b c → BeginsCall a
call_begins e s i = subst BeginsCall (sym e) (subst (λ x. Starts begins_name x) e s, begins_at i)

pub call_name : (a : List Token) → BeginsCall a → Starts begins_name a
call_name [] c = c
call_name (t ∷ ts) c = c.0

pub no_call : {a b : List Token} {t : Token} → a ≡ t ∷ b → Lacks m.LeftParen b → BeginsCall a → ⊥
no_call {b = b} e h c = let x = (subst BeginsCall e c).1 in let y = begun b x in h y.0 y.1
  where
    begun : (b : List Token) → BeginsWith m.LeftParen b → (c : List Token) × Is m.LeftParen b c
    begun [] g = absurd g
    begun (t ∷ ts) g = (ts, is g)

pub no_end : {a : List Token} → a ≡ [] → BeginsCall a → ⊥
no_end e c = subst BeginsCall e c

bracket_behind : {a : List Token} {x : Name} {b : List Token} → IsName a x b → BeginsCall a → BeginsWith m.LeftParen b
bracket_behind (name e) c = c.1

no_right : (a : List Token) → BeginsWith m.LeftParen a → Follows after_right a → ⊥
no_right [] e h = e
no_right (t ∷ ts) e h = never (subst (λ x. IsTrue (after_right x)) e h)

called_made : {a b : List Token} {x : Name} {v : Right} {c : List Token} → IsName a x b → IsCalled x b v c → IsRight a v c
called_made p (called (bracketed i q j)) = call p i q j

called_from : {t : Token} {x : List ℕ} {more : List Token} {u : Right} {after : List Token} → t.kind ≡ k.Name x → BeginsWith m.LeftParen more → IsRight (t ∷ more) u after → Follows after_right after → IsCalled (record { text = x; at = t.at }) more u after
called_from {more = more} e w (plain p) h = absurd (no_right more w (subst (λ y. Follows after_right y) (name_alone e w p) h))
called_from {t = t} {x = x} {more = more} e w (call {c = c} {e = f} {ts = ts} q i r j) h =
    let z = name_only e q in
    subst (λ n. IsCalled (record { text = x; at = t.at }) more (rights.Call n ts) f) (sym z.0) (called (bracketed (subst (λ y. Is m.LeftParen y c) z.1 i) r j))
called_from e w (new (is g) p i q j r l) h = absurd (cc)
called_from e w (downgrade (declassify (is g)) i p j q l r o) h = absurd (cc)
called_from e w (downgrade (endorse (is g)) i p j q l r o) h = absurd (cc)

called_through : {a : List Token} {x : Name} {more : List Token} {u : Right} {after : List Token} → IsName a x more → BeginsWith m.LeftParen more → IsRight a u after → Follows after_right after → IsCalled x more u after
called_through (name e) w d h = called_from e w d h

pub right_called : {room : ℕ} {a : List Token} {x : Name} {b : List Token} → Read IsName any room a x b → BeginsCall a → Going IsRight after_right room a (IsCalled x) (λ v. v) room b
right_called {x = x} {b = b} r c = behind_part (IsCalled x) r (λ y more v after p. called_made p) (λ y more u after p same d h. called_through p (begins_too m.LeftParen b more (bracket_behind (read_here r) c) same) d h)

-- ---- an expression

flipped : (a b : List Token) → SameHead a b → SameHead b a
flipped [] [] s = s
flipped [] (u ∷ us) s = s
flipped (t ∷ ts) [] s = s
flipped (t ∷ ts) (u ∷ us) s = sym s

call_too : (a : List Token) (t : Token) (ts : List Token) {b : List Token} {x : List ℕ} → SameTwo a (t ∷ ts) → t.kind ≡ k.Name x → Is m.LeftParen ts b → BeginsCall a
call_too [] t ts s e i = s
call_too (u ∷ us) t ts s e i = (subst (λ y. IsTrue (begins_name y)) (sym (ap (λ y. y.kind) s.0 ∙ e)) refl, begins_too m.LeftParen ts us (begins_at i) (flipped us ts s.1))

plain_from : (a : List Token) → Lacks m.New a → (Starts begins_downgrade a → ⊥) → (BeginsCall a → ⊥) → (more : List Token) (u : Right) (after : List Token) → SameTwo a more → IsRight more u after → (v : Expression) × (u ≡ rights.Plain v) × IsExpression more v after
plain_from a n l c more u after s (plain {t = t} p) = (t, refl, p)
plain_from a n l c more u after s (call (name {t = t} {ts = ts} e) i p j) = absurd (c (call_too a t ts s e i))
plain_from a n l c more u after s (new i p j q o r h) = absurd (lacks_too a more _ n (two_heads a more s) i)
plain_from a n l c more u after s (downgrade w i p j q o r h) = absurd (l (starts_too begins_downgrade a more (two_heads a more s) (downgrade_begins w)))

one_head : (a : List Token) (t : Token) (ts : List Token) → SameHead a (t ∷ ts) → SameHead a (t ∷ [])
one_head [] t ts s = s
one_head (u ∷ us) t ts s = s

plain_seed : (a : List Token) → Lacks m.New a → (Starts begins_downgrade a → ⊥) → (more : List Token) (u : Right) (after : List Token) → SameHead a more → IsRight more u after → Follows after_right after → (w : List Token) × SameHead a w × (v : Expression) × (z : List Token) × IsExpression w v z × Follows after_expression z
plain_seed a n l more u after s (plain {t = t} p) h = (more, s, t, after, p, weaker begins_arguments after_expression after h)
plain_seed a n l more u after s (call (name {t = t} {ts = ts} {x = x} e) i p j) h = (t ∷ [], one_head a t ts s, local_at t.at x, [], name_expression e [], tt)
plain_seed a n l more u after s (new i p j q o r g) h = absurd (lacks_too a more _ n s i)
plain_seed a n l more u after s (downgrade w i p j q o r g) h = absurd (l (starts_too begins_downgrade a more s (downgrade_begins w)))

pub right_plain : {room : ℕ} (a : List Token) {t : Expression} {b : List Token} → Lacks m.New a → (Starts begins_downgrade a → ⊥) → (BeginsCall a → ⊥) → Read IsExpression after_expression room a t b → Read IsRight after_right room a (rights.Plain t) b
right_plain a n l c r = chosen rights.Plain begins_expression expression_begins (weaker begins_arguments after_expression) r (λ more v after. plain) (plain_from a n l c)

pub right_stops : (room : ℕ) (a : List Token) → Lacks m.New a → (Starts begins_downgrade a → ⊥) → (BeginsCall a → ⊥) → (e : Refusal) → Stops IsExpression after_expression room a e → Stops IsRight after_right room a e
right_stops room a n l c refusal.Memory x = tt
right_stops room a n l c (refusal.Syntax left) x = chosen_refused rights.Plain (weaker begins_arguments after_expression) x (λ more v after. plain) (plain_from a n l c) (plain_seed a n l)
right_stops room a n l c (refusal.Deep left) x = chosen_deep rights.Plain x (λ more v after. plain)
