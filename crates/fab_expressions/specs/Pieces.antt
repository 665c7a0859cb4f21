-- What expressions begin with, and what may follow them.
use Rattle.std.specs.Prelude.{Bool, true, false, ◌||◌, is_some}
use Rattle.fab_base.specs.declared.token.Mark.TheVariants as m
use Rattle.fab_base.specs.declared.token.Kind.{Kind}
use Rattle.fab_base.specs.declared.token.Kind.TheVariants as k
use Rattle.fab_tree.specs.declared.expression.Level.{Level}
use Rattle.fab_tree.specs.declared.expression.Level.TheVariants as level
use Rattle.fab_tree.specs.Marks.{unary_of}
use Rattle.fab_reading.specs.Reading.{begins_numeral, is_comma, behind_items, behind_list}

-- a number, null, a name, or an expression in brackets
abbrev pub begins_primary : Kind → Bool
begins_primary (k.Number n) = begins_numeral (k.Number n)
begins_primary (k.Name x) = true
begins_primary (k.Fixed m.Null) = true
begins_primary (k.Fixed m.LeftParen) = true
begins_primary _ = false

-- the sign of an operator in front of an operand
abbrev pub begins_unary : Kind → Bool
begins_unary (k.Fixed x) = is_some (unary_of x)
begins_unary _ = false

abbrev pub begins_expression : Kind → Bool
begins_expression x = begins_primary x || begins_unary x

-- an operator of a level
abbrev pub begins_operator : Level → Kind → Bool
begins_operator level.Or (k.Fixed m.Bar) = true
begins_operator level.And (k.Fixed m.And) = true
begins_operator level.Sum (k.Fixed m.Plus) = true
begins_operator level.Sum (k.Fixed m.Minus) = true
begins_operator level.Product (k.Fixed m.Star) = true
begins_operator level.Product (k.Fixed m.Slash) = true
begins_operator _ _ = false

abbrev pub begins_comparison : Kind → Bool
begins_comparison (k.Fixed m.EqualEqual) = true
begins_comparison (k.Fixed m.NotEqual) = true
begins_comparison (k.Fixed m.Less) = true
begins_comparison (k.Fixed m.LessEqual) = true
begins_comparison (k.Fixed m.Greater) = true
begins_comparison (k.Fixed m.GreaterEqual) = true
begins_comparison _ = false

-- a name goes on with a dot
abbrev pub after_primary : Kind → Bool
after_primary (k.Fixed m.Dot) = false
after_primary _ = true

-- a chain goes on with an operator of its level, too
abbrev pub after_product : Kind → Bool
after_product = behind_list (begins_operator level.Product) after_primary

abbrev pub after_sum : Kind → Bool
after_sum = behind_list (begins_operator level.Sum) after_product

-- and what may be compared with a comparison
abbrev pub after_compared : Kind → Bool
after_compared = behind_list begins_comparison after_sum

abbrev pub after_and : Kind → Bool
after_and = behind_list (begins_operator level.And) after_compared

abbrev pub after_or : Kind → Bool
after_or = behind_list (begins_operator level.Or) after_and

-- what may follow a chain of each level
abbrev pub after_chain : Level → Kind → Bool
after_chain level.Or = after_or
after_chain level.And = after_and
after_chain level.Sum = after_sum
after_chain level.Product = after_product

-- what may follow an operand of each level
abbrev pub after_operand : Level → Kind → Bool
after_operand level.Or = after_and
after_operand level.And = after_compared
after_operand level.Sum = after_product
after_operand level.Product = after_primary

abbrev pub after_expression : Kind → Bool
after_expression = after_or

-- what may follow expressions with commas between them
abbrev pub after_arguments : Kind → Bool
after_arguments = behind_items begins_expression is_comma after_expression
