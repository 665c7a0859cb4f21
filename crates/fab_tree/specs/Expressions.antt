-- The grammar of expressions.
--
-- A chain is an operand and any number of further ones with operators of its level between them; the levels are
-- those of `|`, of `&`, of `+` and `-`, and of `*` and `/`. Between the second and the third stands the comparison.
use Rattle.std.specs.Prelude.{ℕ, List, [], ◌∷◌}
use Rattle.fab_base.specs.declared.token.Mark.TheVariants as m
use Rattle.fab_base.specs.declared.token.Token.{Token}
use Rattle.fab_tree.specs.declared.name.Name.{Name}
use Rattle.fab_tree.specs.declared.expression.Level.{Level}
use Rattle.fab_tree.specs.declared.expression.Level.TheVariants as level
use Rattle.fab_tree.specs.declared.expression.Operator.{Operator}
use Rattle.fab_tree.specs.declared.expression.Operator.TheVariants as operators
use Rattle.fab_tree.specs.declared.expression.Comparison.{Comparison}
use Rattle.fab_tree.specs.declared.expression.Comparison.TheVariants as comparisons
use Rattle.fab_tree.specs.declared.expression.Expression.{Expression, out-Expression, roll-Expression}
use Rattle.fab_tree.specs.declared.expression.Form.{Form}
use Rattle.fab_tree.specs.declared.expression.Form.TheVariants as f
use Rattle.fab_tree.specs.declared.expression.Number.{Number}
use Rattle.fab_tree.specs.declared.expression.Operand.{Operand, roll-Operand}
use Rattle.fab_tree.specs.declared.expression.UnaryOperator.{UnaryOperator}
use Rattle.fab_tree.specs.Lists.{Is, IsName, IsNumber, IsLeast, Separated}
use Rattle.fab_tree.specs.Marks.{unary_mark}

-- ---- trees

-- an expression of this form, which begins at a place
abbrev pub expression_at : ℕ → Form → Expression
expression_at at form = roll-Expression (record { form = form; at = at })

-- where an expression begins
abbrev pub place_of : Expression → ℕ
place_of t = (out-Expression t).at

-- the same expression in brackets: it begins at the place of the opening one
abbrev pub placed : ℕ → Expression → Expression
placed at t = expression_at at (out-Expression t).form

-- an operand behind an operator, which stands at a place
abbrev pub operand_at : ℕ → Operator → Expression → Operand
operand_at at operator t = roll-Operand (record { operator = operator; at = at; operand = t })

-- a chain of one operand is that operand
abbrev pub chain_of : Expression → List Operand → Expression
chain_of t [] = t
chain_of t (u ∷ us) = expression_at (place_of t) (f.Chain t (u ∷ us))

-- ---- rules

-- comparison = "==" | "!=" | "<" | "<=" | ">" | ">="
pub data IsComparison : List Token → Comparison → List Token → Type 0 where
  equal : {a b : List Token} → Is m.EqualEqual a b → IsComparison a comparisons.Equal b
  not_equal : {a b : List Token} → Is m.NotEqual a b → IsComparison a comparisons.NotEqual b
  less : {a b : List Token} → Is m.Less a b → IsComparison a comparisons.Less b
  less_equal : {a b : List Token} → Is m.LessEqual a b → IsComparison a comparisons.LessEqual b
  greater : {a b : List Token} → Is m.Greater a b → IsComparison a comparisons.Greater b
  greater_equal : {a b : List Token} → Is m.GreaterEqual a b → IsComparison a comparisons.GreaterEqual b

-- the operators of each level
pub data IsOperator : Level → List Token → Operator → List Token → Type 0 where
  bar : {a b : List Token} → Is m.Bar a b → IsOperator level.Or a operators.Or b
  ampersand : {a b : List Token} → Is m.And a b → IsOperator level.And a operators.And b
  plus : {a b : List Token} → Is m.Plus a b → IsOperator level.Sum a operators.Add b
  dash : {a b : List Token} → Is m.Minus a b → IsOperator level.Sum a operators.Subtract b
  star : {a b : List Token} → Is m.Star a b → IsOperator level.Product a operators.Multiply b
  slash : {a b : List Token} → Is m.Slash a b → IsOperator level.Product a operators.Divide b

mutual
  -- chain = operand {operator operand}, at each level
  pub data IsChain : Level → List Token → Expression → List Token → Type 0 where
    chain : {level : Level} {a b c : List Token} {t : Expression} {us : List Operand}
        → IsOperand level a t b → IsOthers level b us c → IsChain level a (chain_of t us) c

  -- {operator operand}
  pub data IsOthers : Level → List Token → List Operand → List Token → Type 0 where
    no_other : {level : Level} {a : List Token} → IsOthers level a [] a
    one_other : {level : Level} {u : Token} {us b c d : List Token} {x : Operator} {t : Expression} {ts : List Operand}
        → IsOperator level (u ∷ us) x b → IsOperand level b t c → IsOthers level c ts d
        → IsOthers level (u ∷ us) (operand_at u.at x t ∷ ts) d

  -- what a chain is of: chains of `&`, comparisons, products, and unary expressions
  pub data IsOperand : Level → List Token → Expression → List Token → Type 0 where
    of_or : {a b : List Token} {t : Expression} → IsChain level.And a t b → IsOperand level.Or a t b
    of_and : {a b : List Token} {t : Expression} → IsCompared a t b → IsOperand level.And a t b
    of_sum : {a b : List Token} {t : Expression} → IsChain level.Product a t b → IsOperand level.Sum a t b
    of_product : {a b : List Token} {t : Expression} → IsUnary a t b → IsOperand level.Product a t b

  -- compared = sum [comparison sum]
  pub data IsCompared : List Token → Expression → List Token → Type 0 where
    alone : {a b : List Token} {t : Expression} → IsChain level.Sum a t b → IsCompared a t b
    compared : {a b c d : List Token} {t u : Expression} {x : Comparison}
        → IsChain level.Sum a t b → IsComparison b x c → IsChain level.Sum c u d
        → IsCompared a (expression_at (place_of t) (f.Compared t x u)) d

  -- unary = primary
  --       | "-" primary
  --       | "!" primary
  --       | "-" least, the digits of the least number of a width
  pub data IsUnary : List Token → Expression → List Token → Type 0 where
    primary : {a b : List Token} {t : Expression} → IsPrimary a t b → IsUnary a t b
    signed : {u : Token} {us b c : List Token} {x : UnaryOperator} {t : Expression}
        → Is (unary_mark x) (u ∷ us) b → IsPrimary b t c → IsUnary (u ∷ us) (expression_at u.at (f.Unary x t)) c
    least : {u : Token} {us b c : List Token} {n : Number}
        → Is m.Minus (u ∷ us) b → IsLeast b n c → IsUnary (u ∷ us) (expression_at u.at (f.Number n)) c

  -- primary = number
  --         | "null"
  --         | name
  --         | name "." name
  --         | "(" expression ")"
  pub data IsPrimary : List Token → Expression → List Token → Type 0 where
    number : {u : Token} {us b : List Token} {n : Number}
        → IsNumber (u ∷ us) n b → IsPrimary (u ∷ us) (expression_at u.at (f.Number n)) b
    null : {u : Token} {us b : List Token}
        → Is m.Null (u ∷ us) b → IsPrimary (u ∷ us) (expression_at u.at f.Null) b
    local : {a b : List Token} {x : Name} → IsName a x b → IsPrimary a (expression_at x.at (f.Local x)) b
    read : {a b c d : List Token} {x y : Name}
        → IsName a x b → Is m.Dot b c → IsName c y d → IsPrimary a (expression_at x.at (f.Read x y)) d
    brackets : {u : Token} {us b c d : List Token} {t : Expression}
        → Is m.LeftParen (u ∷ us) b → IsChain level.Or b t c → Is m.RightParen c d → IsPrimary (u ∷ us) (placed u.at t) d

-- expression = a chain of the loosest level
abbrev pub IsExpression : List Token → Expression → List Token → Type 0
IsExpression = IsChain level.Or

-- arguments = [expression {"," expression}]
abbrev pub IsArguments : List Token → List Expression → List Token → Type 0
IsArguments = Separated m.Comma IsExpression
