-- What expressions begin with.
use Rattle.std.proofs.Common.{◌≡◌, Bool, true, false, ◌||◌, IsTrue, List, [], ◌∷◌, Some, refl, sym, ap, subst}
use Rattle.std.specs.Prelude.{is_some}
use Rattle.std.proofs.lemmas.Bool.{lt-ltb}
use Rattle.fab_base.specs.declared.token.Token.{Token}
use Rattle.fab_tree.specs.declared.expression.Level.{Level}
use Rattle.fab_tree.specs.declared.expression.Expression.{Expression}
use Rattle.fab_tree.specs.declared.expression.UnaryOperator.{UnaryOperator}
use Rattle.fab_tree.specs.declared.expression.UnaryOperator.TheVariants as unary
use Rattle.fab_tree.specs.Lists.{Is, is, name, numeral, int}
use Rattle.fab_tree.specs.Marks.{unary_mark, unary_of}
use Rattle.fab_tree.specs.Expressions.{IsChain, chain, IsOperand, of_or, of_and, of_sum, of_product, IsCompared, alone, compared, IsExpression}
use Rattle.fab_tree.specs.Expressions.{IsUnary, primary, signed, least, IsPrimary, number, null, local, read, brackets}
use Rattle.fab_reading.specs.Reading.{Starts}
use Rattle.fab_expressions.specs.Pieces.{begins_primary, begins_unary, begins_expression}

pub primary_begins : (a : List Token) (t : Expression) (b : List Token) → IsPrimary a t b → Starts begins_primary a
primary_begins a t b (number (int (numeral {n = n} e h))) = subst (λ x. IsTrue (begins_primary x)) (sym e) (lt-ltb n 2147483648 h)
primary_begins a t b (null (is e)) = subst (λ x. IsTrue (begins_primary x)) (sym e) refl
primary_begins a t b (local (name e)) = subst (λ x. IsTrue (begins_primary x)) (sym e) refl
primary_begins a t b (read (name e) i p) = subst (λ x. IsTrue (begins_primary x)) (sym e) refl
primary_begins a t b (brackets (is e) p i) = subst (λ x. IsTrue (begins_primary x)) (sym e) refl

starts_primary : (a : List Token) → Starts begins_primary a → Starts begins_expression a
starts_primary [] h = absurd h
starts_primary (t ∷ ts) h = ap (λ b. b || begins_unary t.kind) h

-- a sign stands for the operator whose sign it is
pub unary_of_mark : (x : UnaryOperator) → unary_of (unary_mark x) ≡ Some x
unary_of_mark unary.Negative = refl
unary_of_mark unary.Not = refl

pub sign_begins : {a b : List Token} (x : UnaryOperator) → Is (unary_mark x) a b → Starts begins_unary a
sign_begins x (is e) = subst (λ y. IsTrue (begins_unary y)) (sym e) (ap is_some (unary_of_mark x))

starts_unary : (a : List Token) → Starts begins_unary a → Starts begins_expression a
starts_unary [] h = absurd h
starts_unary (t ∷ ts) h = or_right (begins_primary t.kind) (begins_unary t.kind) h
  where
    or_right : (b c : Bool) → IsTrue c → IsTrue (b || c)
    or_right true c i = refl
    or_right false c i = i

pub unary_begins : (a : List Token) (t : Expression) (b : List Token) → IsUnary a t b → Starts begins_expression a
unary_begins a t b (primary p) = starts_primary a (primary_begins a t b p)
unary_begins a t b (signed {x = x} i p) = starts_unary a (sign_begins x i)
unary_begins a t b (least i p) = starts_unary a (sign_begins unary.Negative i)

mutual
  pub chain_begins : (level : Level) (a : List Token) (t : Expression) (b : List Token) → IsChain level a t b → Starts begins_expression a
  chain_begins level a _ b (chain p q) = operand_begins level a _ _ p

  pub operand_begins : (level : Level) (a : List Token) (t : Expression) (b : List Token) → IsOperand level a t b → Starts begins_expression a
  operand_begins _ a t b (of_or p) = chain_begins _ a t b p
  operand_begins _ a t b (of_and p) = compared_begins a t b p
  operand_begins _ a t b (of_sum p) = chain_begins _ a t b p
  operand_begins _ a t b (of_product p) = unary_begins a t b p

  pub compared_begins : (a : List Token) (t : Expression) (b : List Token) → IsCompared a t b → Starts begins_expression a
  compared_begins a t b (alone p) = chain_begins _ a t b p
  compared_begins a _ b (compared p i q) = chain_begins _ a _ _ p

pub expression_begins : (a : List Token) (t : Expression) (b : List Token) → IsExpression a t b → Starts begins_expression a
expression_begins a t b p = chain_begins _ a t b p
