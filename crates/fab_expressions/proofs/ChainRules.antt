-- Chains and comparisons, part by part.
use Rattle.std.proofs.Common.{◌≡◌, ℕ, Bool, List, [], ◌∷◌, Option, Some, None, refl, sym, subst}
use Rattle.fab_base.specs.declared.token.Kind.{Kind}
use Rattle.fab_base.specs.declared.token.Token.{Token}
use Rattle.fab_tree.specs.declared.expression.Level.{Level}
use Rattle.fab_tree.specs.declared.expression.Level.TheVariants as level
use Rattle.fab_tree.specs.declared.expression.Operator.{Operator}
use Rattle.fab_tree.specs.declared.expression.Comparison.{Comparison}
use Rattle.fab_tree.specs.declared.expression.Expression.{Expression}
use Rattle.fab_tree.specs.declared.expression.Form.TheVariants as forms
use Rattle.fab_tree.specs.declared.expression.Operand.{Operand}
use Rattle.fab_tree.specs.Expressions.{expression_at, place_of, operand_at, chain_of, IsComparison, IsChain, chain, IsOthers, no_other, one_other, IsOperand, of_or, of_and, of_sum, of_product, IsCompared, alone, compared, IsUnary}
use Rattle.fab_reading.specs.declared.refusal.Refusal.{Refusal}
use Rattle.fab_reading.specs.declared.refusal.Refusal.TheVariants as refusal
use Rattle.fab_reading.specs.Reading.{Starts, SameHead, Follows, Read, Refused, Deep, Stops, behind_list}
use Rattle.fab_reading.proofs.Rules.{Then, End, HasText, Going, start, turn, starts_too}
use Rattle.fab_reading.proofs.ListRules.{apart, weaker, starts_follows}
use Rattle.fab_expressions.specs.Pieces.{begins_operator, begins_comparison, after_sum, after_compared, after_operand, after_chain}
use Rattle.fab_expressions.proofs.OperatorRules.{IsPlacedOperator, placed_operator, operator_begins, operator_meets, comparison_begins, comparison_meets}

-- ---- the same rule in other words

module _ {A : Type 0} {R S : List Token → A → List Token → Type 0} (to : (a : List Token) (t : A) (b : List Token) → S a t b → R a t b) (from : (a : List Token) (t : A) (b : List Token) → R a t b → S a t b) where
  pub same_read : {may : Kind → Bool} {room : ℕ} {a : List Token} {t : A} {b : List Token} → Read S may room a t b → Read R may room a t b
  same_read r = record {
    front = r.front;
    cut = r.cut;
    level = r.level;
    reads = λ more. to _ _ _ (r.reads more);
    only = λ more same u after d h. r.only more same u after (from _ _ _ d) h;
  }

  same_refused : {may : Kind → Bool} {room : ℕ} {a : List Token} {n : ℕ} → Refused S may room a n → Refused R may room a n
  same_refused r = record {
    front = r.front;
    back = r.back;
    cut = r.cut;
    left_is = r.left_is;
    level = r.level;
    begins = (r.begins.0, r.begins.1, λ after. to _ _ _ (r.begins.2 after));
    bad = λ more same u after d h. r.bad more same u after (from _ _ _ d) h;
  }

  same_deep : {room : ℕ} {a : List Token} {n : ℕ} → Deep S room a n → Deep R room a n
  same_deep r = record {
    front = r.front;
    next = r.next;
    back = r.back;
    cut = r.cut;
    left_is = r.left_is;
    level = r.level;
    opens = r.opens;
    begins = (r.begins.0, r.begins.1, λ after. to _ _ _ (r.begins.2 after));
  }

  pub same_stops : (may : Kind → Bool) (room : ℕ) (a : List Token) (e : Refusal) → Stops S may room a e → Stops R may room a e
  same_stops may room a refusal.Memory x = tt
  same_stops may room a (refusal.Syntax n) x = same_refused x
  same_stops may room a (refusal.Deep n) x = same_deep x

-- ---- what a chain is of

pub or_back : (a : List Token) (t : Expression) (b : List Token) → IsOperand level.Or a t b → IsChain level.And a t b
or_back a t b (of_or p) = p

pub and_back : (a : List Token) (t : Expression) (b : List Token) → IsOperand level.And a t b → IsCompared a t b
and_back a t b (of_and p) = p

pub sum_back : (a : List Token) (t : Expression) (b : List Token) → IsOperand level.Sum a t b → IsChain level.Product a t b
sum_back a t b (of_sum p) = p

pub product_back : (a : List Token) (t : Expression) (b : List Token) → IsOperand level.Product a t b → IsUnary a t b
product_back a t b (of_product p) = p

-- ---- chain = operand {operator operand}

-- what may follow a chain is no operator of its level, and may follow an operand
chain_follows : (x : Level) (a : List Token) → Follows (after_chain x) a → Follows (behind_list (begins_operator x) (after_operand x)) a
chain_follows level.Or a h = h
chain_follows level.And a h = h
chain_follows level.Sum a h = h
chain_follows level.Product a h = h

abbrev pub others_of : (ℕ × Operator) × (Expression × List Operand) → List Operand
others_of v = operand_at v.0.0 v.0.1 v.1.0 ∷ v.1.1

others_made : {x : Level} {a b c d : List Token} {v : ℕ × Operator} {t : Expression} {ts : List Operand} → IsPlacedOperator x a v b → IsOperand x b t c → IsOthers x c ts d → IsOthers x a (operand_at v.0 v.1 t ∷ ts) d
others_made (placed_operator i) p q = one_other i p q

others_back : (x : Level) (a : List Token) {more : List Token} {v : List Operand} {b : List Token} → SameHead a more → Starts (begins_operator x) a → IsOthers x more v b → Follows (after_chain x) b → (w : (ℕ × Operator) × (Expression × List Operand)) × (v ≡ others_of w) × Then (IsPlacedOperator x) (Then (IsOperand x) (IsOthers x)) more w b
others_back x a {more = more} same s no_other h = absurd (apart (begins_operator x) (after_operand x) a more same s (chain_follows x more h))
others_back x a same s (one_other {u = u} {b = b} {c = c} {x = v} {t = t} {ts = ts} i p q) h = (((u.at, v), (t, ts)), refl, record { mid = b; first = placed_operator i; second = record { mid = c; first = p; second = q } })

others_none : (x : Level) {more : List Token} {v : List Operand} {b : List Token} → (Starts (begins_operator x) more → ⊥) → IsOthers x more v b → (w : Unit {0}) × (v ≡ []) × (more ≡ b)
others_none x h no_other = (tt, refl, refl)
others_none x h (one_other {b = b} {x = v} i p q) = absurd (h (operator_begins x _ v b i))

module _ (x : Level) {A : Type 0} {R : List Token → A → List Token → Type 0} {room : ℕ} {a : List Token} {f : List Operand → A} {left : ℕ} {b : List Token} where
  -- an operator comes, and an operand behind it
  pub others_more : Going R (after_chain x) room a (IsOthers x) f left b → Starts (begins_operator x) b → Going R (after_chain x) room a (Then (IsPlacedOperator x) (Then (IsOperand x) (IsOthers x))) (λ v. f (others_of v)) left b
  others_more r s = turn others_of r (λ more v after p. others_made p.first p.second.first p.second.second) (λ more v after same p h. others_back x b same s p h)

  -- no operator comes
  pub others_end : {may : Kind → Bool} → Going R may room a (IsOthers x) f left b → (Starts (begins_operator x) b → ⊥) → Going R may room a End (λ v. f []) left b
  others_end r h = turn (λ v. []) r (λ more v after p. subst (λ y. IsOthers x more [] y) p no_other) (λ more v after same p i. others_none x (λ s. h (starts_too (begins_operator x) b more same s)) p)

pub others_text : (x : Level) → HasText (IsOthers x)
others_text x = ([], [], λ after. no_other)

-- what comes behind an operand may follow it
pub others_meet : (x : Level) (more : List Token) (v : List Operand) (after : List Token) → IsOthers x more v after → Follows (after_chain x) after → Follows (after_operand x) more
others_meet x more v after no_other h = weaker (begins_operator x) (after_operand x) more (chain_follows x more h)
others_meet x more v after (one_other {b = b} {x = w} i p q) h = starts_follows (begins_operator x) (after_operand x) (operator_meets x) more (operator_begins x more w b i)

chain_back : (x : Level) {a : List Token} {v : Expression} {b : List Token} → IsChain x a v b → (w : Expression × List Operand) × (v ≡ chain_of w.0 w.1) × Then (IsOperand x) (IsOthers x) a w b
chain_back x (chain {b = b} {t = t} {us = us} p q) = ((t, us), refl, record { mid = b; first = p; second = q })

pub chain_start : (x : Level) {room : ℕ} (a : List Token) → Going (IsChain x) (after_chain x) room a (Then (IsOperand x) (IsOthers x)) (λ v. chain_of v.0 v.1) room a
chain_start x {room = room} a = turn (λ v. chain_of v.0 v.1) (start (IsChain x) (after_chain x) room a) (λ more v after p. chain p.first p.second) (λ more v after same p h. chain_back x p)

-- ---- compared = sum [comparison sum]

-- [comparison sum]
pub data IsRight : List Token → Option (Comparison × Expression) → List Token → Type 0 where
  no_right : {a : List Token} → IsRight a None a
  a_right : {a b c : List Token} {x : Comparison} {t : Expression} → IsComparison a x b → IsChain level.Sum b t c → IsRight a (Some (x, t)) c

abbrev pub compared_of : Expression → Option (Comparison × Expression) → Expression
compared_of t None = t
compared_of t (Some u) = expression_at (place_of t) (forms.Compared t u.0 u.1)

compared_made : {a b c : List Token} {t : Expression} {u : Option (Comparison × Expression)} → IsChain level.Sum a t b → IsRight b u c → IsCompared a (compared_of t u) c
compared_made p no_right = alone p
compared_made p (a_right i q) = compared p i q

compared_back : {a : List Token} {v : Expression} {b : List Token} → IsCompared a v b → (x : Expression × Option (Comparison × Expression)) × (v ≡ compared_of x.0 x.1) × Then (IsChain level.Sum) IsRight a x b
compared_back (alone {b = b} {t = t} p) = ((t, None), refl, record { mid = b; first = p; second = no_right })
compared_back (compared {b = b} {t = t} {u = u} {x = x} p i q) = ((t, Some (x, u)), refl, record { mid = b; first = p; second = a_right i q })

pub compared_start : {room : ℕ} (a : List Token) → Going IsCompared after_compared room a (Then (IsChain level.Sum) IsRight) (λ v. compared_of v.0 v.1) room a
compared_start {room = room} a = turn (λ v. compared_of v.0 v.1) (start IsCompared after_compared room a) (λ more v after p. compared_made p.first p.second) (λ more v after same p h. compared_back p)

right_none : {more : List Token} {v : Option (Comparison × Expression)} {b : List Token} → (Starts begins_comparison more → ⊥) → IsRight more v b → (x : Unit {0}) × (v ≡ None) × (more ≡ b)
right_none h no_right = (tt, refl, refl)
right_none h (a_right {x = x} i q) = absurd (h (comparison_begins _ x _ i))

right_some : (a : List Token) {more : List Token} {v : Option (Comparison × Expression)} {b : List Token} → SameHead a more → Starts begins_comparison a → IsRight more v b → Follows after_compared b → (x : Comparison × Expression) × (v ≡ Some x) × Then IsComparison (IsChain level.Sum) more x b
right_some a {more = more} same s no_right h = absurd (apart begins_comparison after_sum a more same s h)
right_some a same s (a_right {b = b} {x = x} {t = t} i q) h = ((x, t), refl, record { mid = b; first = i; second = q })

module _ {A : Type 0} {R : List Token → A → List Token → Type 0} {room : ℕ} {a : List Token} {f : Option (Comparison × Expression) → A} {left : ℕ} {b : List Token} where
  -- no comparison comes
  pub right_end : {may : Kind → Bool} → Going R may room a IsRight f left b → (Starts begins_comparison b → ⊥) → Going R may room a End (λ x. f None) left b
  right_end r h = turn (λ x. None) r (λ more v after p. subst (λ y. IsRight more None y) p no_right) (λ more v after same p i. right_none (λ s. h (starts_too begins_comparison b more same s)) p)

  -- one comes
  pub right_start : Going R after_compared room a IsRight f left b → Starts begins_comparison b → Going R after_compared room a (Then IsComparison (IsChain level.Sum)) (λ v. f (Some v)) left b
  right_start r s = turn (λ v. Some v) r (λ more v after p. a_right p.first p.second) (λ more v after same p h. right_some b same s p h)

-- what comes behind the left side may follow a sum
pub right_meets : (more : List Token) (v : Option (Comparison × Expression)) (after : List Token) → IsRight more v after → Follows after_compared after → Follows after_sum more
right_meets more v after no_right h = weaker begins_comparison after_sum more h
right_meets more v after (a_right {x = x} i q) h = starts_follows begins_comparison after_sum comparison_meets more (comparison_begins more x _ i)

-- what may follow a comparison may follow its right side
pub end_of_sum : (more : List Token) (v : Unit {0}) (after : List Token) → End more v after → Follows after_compared after → Follows after_sum more
end_of_sum more v after e h = weaker begins_comparison after_sum more (subst (λ x. Follows after_compared x) (sym e) h)

pub right_text : HasText IsRight
right_text = ([], None, λ after. no_right)
