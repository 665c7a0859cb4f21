-- Comparisons and operators.
use Rattle.std.proofs.Common.{◌≡◌, ◌<◌, ℕ, IsTrue, List, [], ◌∷◌, length, Option, Some, None, refl, sym, ap, ◌∙◌, subst}
use Rattle.fab_base.specs.declared.token.Mark.TheVariants as m
use Rattle.fab_base.specs.declared.token.Kind.{Kind}
use Rattle.fab_base.specs.declared.token.Kind.TheVariants as k
use Rattle.fab_base.specs.declared.token.Token.{Token}
use Rattle.fab_tree.specs.declared.expression.Level.{Level}
use Rattle.fab_tree.specs.declared.expression.Level.TheVariants as level
use Rattle.fab_tree.specs.declared.expression.Operator.{Operator}
use Rattle.fab_tree.specs.declared.expression.Operator.TheVariants as operators
use Rattle.fab_tree.specs.declared.expression.Comparison.{Comparison}
use Rattle.fab_tree.specs.declared.expression.Comparison.TheVariants as comparisons
use Rattle.fab_tree.specs.Depth.{room_by}
use Rattle.fab_tree.specs.Lists.{is}
use Rattle.fab_tree.specs.Expressions.{IsComparison, equal, not_equal, less, less_equal, greater, greater_equal, IsOperator, bar, ampersand, plus, dash, star, slash}
use Rattle.fab_reading.specs.Reading.{Lacks, Starts, Read, any, first_place}
use Rattle.fab_reading.proofs.Rules.{leaf, never, sign_shorter}
use Rattle.fab_expressions.specs.Pieces.{begins_operator, begins_comparison, after_sum, after_operand}

-- ---- comparison = "==" | "!=" | "<" | "<=" | ">" | ">="

abbrev comparing : Kind → Option Comparison
comparing (k.Fixed m.EqualEqual) = Some comparisons.Equal
comparing (k.Fixed m.NotEqual) = Some comparisons.NotEqual
comparing (k.Fixed m.Less) = Some comparisons.Less
comparing (k.Fixed m.LessEqual) = Some comparisons.LessEqual
comparing (k.Fixed m.Greater) = Some comparisons.Greater
comparing (k.Fixed m.GreaterEqual) = Some comparisons.GreaterEqual
comparing _ = None

comparing_of : {t : Token} {ts b : List Token} {x : Comparison} → IsComparison (t ∷ ts) x b → (comparing t.kind ≡ Some x) × (b ≡ ts)
comparing_of (equal (is e)) = (ap comparing e, refl)
comparing_of (not_equal (is e)) = (ap comparing e, refl)
comparing_of (less (is e)) = (ap comparing e, refl)
comparing_of (less_equal (is e)) = (ap comparing e, refl)
comparing_of (greater (is e)) = (ap comparing e, refl)
comparing_of (greater_equal (is e)) = (ap comparing e, refl)

some_same : {A : Type 0} (x y : A) → Some x ≡ Some y → x ≡ y
some_same x y e = cc

comparison_only : {t : Token} {more : List Token} {x v : Comparison} {after : List Token} → comparing t.kind ≡ Some x → IsComparison (t ∷ more) v after → (v ≡ x) × (after ≡ more)
comparison_only {x = x} {v = v} e p = let q = comparing_of p in (some_same v x (sym q.0 ∙ e), q.1)

pub comparison_read : {room : ℕ} {a : List Token} {x : Comparison} {b : List Token} → IsComparison a x b → Read IsComparison any room a x b
comparison_read {room = room} (equal (is e)) = leaf refl (ap (λ y. room_by y room) e) (λ more. equal (is e)) (λ more v after. comparison_only (ap comparing e))
comparison_read {room = room} (not_equal (is e)) = leaf refl (ap (λ y. room_by y room) e) (λ more. not_equal (is e)) (λ more v after. comparison_only (ap comparing e))
comparison_read {room = room} (less (is e)) = leaf refl (ap (λ y. room_by y room) e) (λ more. less (is e)) (λ more v after. comparison_only (ap comparing e))
comparison_read {room = room} (less_equal (is e)) = leaf refl (ap (λ y. room_by y room) e) (λ more. less_equal (is e)) (λ more v after. comparison_only (ap comparing e))
comparison_read {room = room} (greater (is e)) = leaf refl (ap (λ y. room_by y room) e) (λ more. greater (is e)) (λ more v after. comparison_only (ap comparing e))
comparison_read {room = room} (greater_equal (is e)) = leaf refl (ap (λ y. room_by y room) e) (λ more. greater_equal (is e)) (λ more v after. comparison_only (ap comparing e))

pub comparison_begins : (a : List Token) (x : Comparison) (b : List Token) → IsComparison a x b → Starts begins_comparison a
comparison_begins a x b (equal (is e)) = subst (λ y. IsTrue (begins_comparison y)) (sym e) refl
comparison_begins a x b (not_equal (is e)) = subst (λ y. IsTrue (begins_comparison y)) (sym e) refl
comparison_begins a x b (less (is e)) = subst (λ y. IsTrue (begins_comparison y)) (sym e) refl
comparison_begins a x b (less_equal (is e)) = subst (λ y. IsTrue (begins_comparison y)) (sym e) refl
comparison_begins a x b (greater (is e)) = subst (λ y. IsTrue (begins_comparison y)) (sym e) refl
comparison_begins a x b (greater_equal (is e)) = subst (λ y. IsTrue (begins_comparison y)) (sym e) refl

none_of_six : (x : Kind) → (x ≡ k.Fixed m.EqualEqual → ⊥) → (x ≡ k.Fixed m.NotEqual → ⊥) → (x ≡ k.Fixed m.Less → ⊥) → (x ≡ k.Fixed m.LessEqual → ⊥) → (x ≡ k.Fixed m.Greater → ⊥) → (x ≡ k.Fixed m.GreaterEqual → ⊥) → IsTrue (begins_comparison x) → ⊥
none_of_six (k.Fixed m.EqualEqual) e f g h i j s = e refl
none_of_six (k.Fixed m.NotEqual) e f g h i j s = f refl
none_of_six (k.Fixed m.Less) e f g h i j s = g refl
none_of_six (k.Fixed m.LessEqual) e f g h i j s = h refl
none_of_six (k.Fixed m.Greater) e f g h i j s = i refl
none_of_six (k.Fixed m.GreaterEqual) e f g h i j s = j refl
none_of_six _ e f g h i j s = never s

pub no_comparison : (a : List Token) → Lacks m.EqualEqual a → Lacks m.NotEqual a → Lacks m.Less a → Lacks m.LessEqual a → Lacks m.Greater a → Lacks m.GreaterEqual a → Starts begins_comparison a → ⊥
no_comparison [] e f g h i j s = s
no_comparison (t ∷ ts) e f g h i j s = none_of_six t.kind (λ x. e ts (is x)) (λ x. f ts (is x)) (λ x. g ts (is x)) (λ x. h ts (is x)) (λ x. i ts (is x)) (λ x. j ts (is x)) s

pub comparison_meets : (x : Kind) → IsTrue (begins_comparison x) → IsTrue (after_sum x)
comparison_meets (k.Fixed m.EqualEqual) h = refl
comparison_meets (k.Fixed m.NotEqual) h = refl
comparison_meets (k.Fixed m.Less) h = refl
comparison_meets (k.Fixed m.LessEqual) h = refl
comparison_meets (k.Fixed m.Greater) h = refl
comparison_meets (k.Fixed m.GreaterEqual) h = refl
comparison_meets _ h = absurd (never h)

-- ---- operators of each level

abbrev operating : Level → Kind → Option Operator
operating level.Or (k.Fixed m.Bar) = Some operators.Or
operating level.And (k.Fixed m.And) = Some operators.And
operating level.Sum (k.Fixed m.Plus) = Some operators.Add
operating level.Sum (k.Fixed m.Minus) = Some operators.Subtract
operating level.Product (k.Fixed m.Star) = Some operators.Multiply
operating level.Product (k.Fixed m.Slash) = Some operators.Divide
operating _ _ = None

operating_of : {x : Level} {t : Token} {ts b : List Token} {v : Operator} → IsOperator x (t ∷ ts) v b → (operating x t.kind ≡ Some v) × (b ≡ ts)
operating_of (bar (is e)) = (ap (operating level.Or) e, refl)
operating_of (ampersand (is e)) = (ap (operating level.And) e, refl)
operating_of (plus (is e)) = (ap (operating level.Sum) e, refl)
operating_of (dash (is e)) = (ap (operating level.Sum) e, refl)
operating_of (star (is e)) = (ap (operating level.Product) e, refl)
operating_of (slash (is e)) = (ap (operating level.Product) e, refl)

-- an operator of a level, with its place
pub data IsPlacedOperator (x : Level) : List Token → ℕ × Operator → List Token → Type 0 where
  placed_operator : {t : Token} {ts b : List Token} {v : Operator} → IsOperator x (t ∷ ts) v b → IsPlacedOperator x (t ∷ ts) (t.at, v) b

operator_only : {x : Level} {t : Token} {more : List Token} {u : Operator} {v : ℕ × Operator} {after : List Token} → operating x t.kind ≡ Some u → IsPlacedOperator x (t ∷ more) v after → (v ≡ (t.at, u)) × (after ≡ more)
operator_only {t = t} {u = u} e (placed_operator {v = v} p) = let q = operating_of p in (ap (λ z. (t.at, z)) (some_same v u (sym q.0 ∙ e)), q.1)

pub operator_read : {x : Level} {room : ℕ} {a : List Token} {v : Operator} {b : List Token} → IsOperator x a v b → Read (IsPlacedOperator x) any room a (first_place a, v) b
operator_read {room = room} (bar (is e)) = leaf refl (ap (λ y. room_by y room) e) (λ more. placed_operator (bar (is e))) (λ more v after. operator_only (ap (operating level.Or) e))
operator_read {room = room} (ampersand (is e)) = leaf refl (ap (λ y. room_by y room) e) (λ more. placed_operator (ampersand (is e))) (λ more v after. operator_only (ap (operating level.And) e))
operator_read {room = room} (plus (is e)) = leaf refl (ap (λ y. room_by y room) e) (λ more. placed_operator (plus (is e))) (λ more v after. operator_only (ap (operating level.Sum) e))
operator_read {room = room} (dash (is e)) = leaf refl (ap (λ y. room_by y room) e) (λ more. placed_operator (dash (is e))) (λ more v after. operator_only (ap (operating level.Sum) e))
operator_read {room = room} (star (is e)) = leaf refl (ap (λ y. room_by y room) e) (λ more. placed_operator (star (is e))) (λ more v after. operator_only (ap (operating level.Product) e))
operator_read {room = room} (slash (is e)) = leaf refl (ap (λ y. room_by y room) e) (λ more. placed_operator (slash (is e))) (λ more v after. operator_only (ap (operating level.Product) e))

pub operator_begins : (x : Level) (a : List Token) (v : Operator) (b : List Token) → IsOperator x a v b → Starts (begins_operator x) a
operator_begins x a v b (bar (is e)) = subst (λ y. IsTrue (begins_operator level.Or y)) (sym e) refl
operator_begins x a v b (ampersand (is e)) = subst (λ y. IsTrue (begins_operator level.And y)) (sym e) refl
operator_begins x a v b (plus (is e)) = subst (λ y. IsTrue (begins_operator level.Sum y)) (sym e) refl
operator_begins x a v b (dash (is e)) = subst (λ y. IsTrue (begins_operator level.Sum y)) (sym e) refl
operator_begins x a v b (star (is e)) = subst (λ y. IsTrue (begins_operator level.Product y)) (sym e) refl
operator_begins x a v b (slash (is e)) = subst (λ y. IsTrue (begins_operator level.Product y)) (sym e) refl

pub operator_shorter : {x : Level} {a : List Token} {v : Operator} {b : List Token} → IsOperator x a v b → length b < length a
operator_shorter (bar i) = sign_shorter i
operator_shorter (ampersand i) = sign_shorter i
operator_shorter (plus i) = sign_shorter i
operator_shorter (dash i) = sign_shorter i
operator_shorter (star i) = sign_shorter i
operator_shorter (slash i) = sign_shorter i

bar_kind : (x : Kind) → (x ≡ k.Fixed m.Bar → ⊥) → IsTrue (begins_operator level.Or x) → ⊥
bar_kind (k.Fixed m.Bar) e s = e refl
bar_kind _ e s = never s

ampersand_kind : (x : Kind) → (x ≡ k.Fixed m.And → ⊥) → IsTrue (begins_operator level.And x) → ⊥
ampersand_kind (k.Fixed m.And) e s = e refl
ampersand_kind _ e s = never s

sum_kind : (x : Kind) → (x ≡ k.Fixed m.Plus → ⊥) → (x ≡ k.Fixed m.Minus → ⊥) → IsTrue (begins_operator level.Sum x) → ⊥
sum_kind (k.Fixed m.Plus) e f s = e refl
sum_kind (k.Fixed m.Minus) e f s = f refl
sum_kind _ e f s = never s

product_kind : (x : Kind) → (x ≡ k.Fixed m.Star → ⊥) → (x ≡ k.Fixed m.Slash → ⊥) → IsTrue (begins_operator level.Product x) → ⊥
product_kind (k.Fixed m.Star) e f s = e refl
product_kind (k.Fixed m.Slash) e f s = f refl
product_kind _ e f s = never s

pub no_bar : (a : List Token) → Lacks m.Bar a → Starts (begins_operator level.Or) a → ⊥
no_bar [] e s = s
no_bar (t ∷ ts) e s = bar_kind t.kind (λ x. e ts (is x)) s

pub no_ampersand : (a : List Token) → Lacks m.And a → Starts (begins_operator level.And) a → ⊥
no_ampersand [] e s = s
no_ampersand (t ∷ ts) e s = ampersand_kind t.kind (λ x. e ts (is x)) s

pub no_sum_sign : (a : List Token) → Lacks m.Plus a → Lacks m.Minus a → Starts (begins_operator level.Sum) a → ⊥
no_sum_sign [] e f s = s
no_sum_sign (t ∷ ts) e f s = sum_kind t.kind (λ x. e ts (is x)) (λ x. f ts (is x)) s

pub no_product_sign : (a : List Token) → Lacks m.Star a → Lacks m.Slash a → Starts (begins_operator level.Product) a → ⊥
no_product_sign [] e f s = s
no_product_sign (t ∷ ts) e f s = product_kind t.kind (λ x. e ts (is x)) (λ x. f ts (is x)) s

pub operator_meets : (x : Level) (y : Kind) → IsTrue (begins_operator x y) → IsTrue (after_operand x y)
operator_meets level.Or (k.Fixed m.Bar) h = refl
operator_meets level.And (k.Fixed m.And) h = refl
operator_meets level.Sum (k.Fixed m.Plus) h = refl
operator_meets level.Sum (k.Fixed m.Minus) h = refl
operator_meets level.Product (k.Fixed m.Star) h = refl
operator_meets level.Product (k.Fixed m.Slash) h = refl
operator_meets level.Or _ h = absurd (never h)
operator_meets level.And _ h = absurd (never h)
operator_meets level.Sum _ h = absurd (never h)
operator_meets level.Product _ h = absurd (never h)
