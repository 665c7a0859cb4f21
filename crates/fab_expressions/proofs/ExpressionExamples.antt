-- Expressions with their trees and places.
use Rattle.std.proofs.Common.{◌+◌, ℕ, List, [], ◌∷◌, refl}
use Rattle.fab_base.specs.declared.token.Mark.{Mark}
use Rattle.fab_base.specs.declared.token.Mark.TheVariants as m
use Rattle.fab_base.specs.declared.token.Kind.TheVariants as k
use Rattle.fab_base.specs.declared.token.Token.{Token}
use Rattle.fab_tree.specs.declared.expression.Level.TheVariants as level
use Rattle.fab_tree.specs.declared.expression.Operator.TheVariants as operators
use Rattle.fab_tree.specs.declared.expression.Expression.{Expression}
use Rattle.fab_tree.specs.declared.expression.Form.TheVariants as forms
use Rattle.fab_tree.specs.Lists.{is, name}
use Rattle.fab_tree.specs.Expressions.{expression_at, operand_at, IsExpression, IsChain, chain, no_other, one_other, plus, dash, star, IsOperand, of_or, of_and, of_sum, of_product, alone, primary, local, brackets, IsPrimary}
use Rattle.fab_reading.proofs.Rules.{never}
use Rattle.fab_expressions.specs.Firsts.{expression_begins}

-- a name of one letter, and a mark, each at a place
abbrev letter : ℕ → ℕ → Token
letter x at = record { kind = k.Name (x ∷ []); at = at; end = at + 1 }

abbrev mark_at : Mark → ℕ → Token
mark_at mark at = record { kind = k.Fixed mark; at = at; end = at + 1 }

abbrev local_at : ℕ → ℕ → Expression
local_at x at = expression_at at (forms.Local (record { text = x ∷ []; at = at }))

letter_is : (x at : ℕ) (after : List Token) → IsPrimary (letter x at ∷ after) (local_at x at) after
letter_is x at after = local (name refl)

-- a product of one factor
one_factor : {a b : List Token} {t : Expression} → IsPrimary a t b → IsOperand level.Sum a t b
one_factor p = of_sum (chain (of_product (primary p)) no_other)

-- a sum is an expression
whole_sum : {a b : List Token} {t : Expression} → IsChain level.Sum a t b → IsExpression a t b
whole_sum p = chain (of_or (chain (of_and (alone p)) no_other)) no_other

-- a - b + c: one chain from the left, each operand with the place of the operator before it
left_to_right : IsExpression (letter 97 0 ∷ mark_at m.Minus 2 ∷ letter 98 4 ∷ mark_at m.Plus 6 ∷ letter 99 8 ∷ []) (expression_at 0 (forms.Chain (local_at 97 0) (operand_at 2 operators.Subtract (local_at 98 4) ∷ operand_at 6 operators.Add (local_at 99 8) ∷ []))) []
left_to_right =
    whole_sum (chain (one_factor (letter_is 97 0 _)) (one_other (dash (is refl)) (one_factor (letter_is 98 4 _)) (one_other (plus (is refl)) (one_factor (letter_is 99 8 [])) no_other)))

-- a * (b): the operand begins at its bracket, and its name where it stands
bracketed : IsExpression (letter 97 0 ∷ mark_at m.Star 2 ∷ mark_at m.LeftParen 4 ∷ letter 98 5 ∷ mark_at m.RightParen 6 ∷ []) (expression_at 0 (forms.Chain (local_at 97 0) (operand_at 2 operators.Multiply (expression_at 4 (forms.Local (record { text = 98 ∷ []; at = 5 }))) ∷ []))) []
bracketed =
    let inside = whole_sum (chain (one_factor (letter_is 98 5 (mark_at m.RightParen 6 ∷ []))) no_other) in
    whole_sum (chain (of_sum (chain (of_product (primary (letter_is 97 0 _))) (one_other (star (is refl)) (of_product (primary (brackets (is refl) inside (is refl)))) no_other))) no_other)

-- + a: no expression
no_leading_plus : (t : Expression) (b : List Token) → IsExpression (mark_at m.Plus 0 ∷ letter 97 1 ∷ []) t b → ⊥
no_leading_plus t b p = never (expression_begins _ t b p)
