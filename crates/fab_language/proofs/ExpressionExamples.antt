-- Worked examples of what operators, comparisons and expressions give.
use Rattle.std.proofs.Common.{◌≡◌, ℕ, ℤ, pos, negsuc, true, false, List, [], ◌∷◌, refl}
use Rattle.std.specs.Int.{int_wrap}
use Rattle.fab_base.specs.declared.object.Oid.{Oid}
use Rattle.fab_base.specs.declared.object.Value.{Value}
use Rattle.fab_base.specs.declared.object.Value.TheVariants.{Int, Null, Ref}
use Rattle.fab_tree.specs.declared.expression.Operator.{Operator}
use Rattle.fab_tree.specs.declared.expression.Operator.TheVariants.{Or, And, Add, Subtract, Multiply, Divide}
use Rattle.fab_tree.specs.declared.expression.Comparison.TheVariants.{Equal, NotEqual, Less, LessEqual, Greater, GreaterEqual}
use Rattle.fab_tree.specs.declared.resolved.Use.{Use}
use Rattle.fab_tree.specs.declared.resolved.Form.TheOpen as f
use Rattle.fab_tree.specs.declared.expression.Number.TheVariants as numbers
use Rattle.fab_tree.specs.declared.expression.UnaryOperator.TheVariants as unary
use Rattle.fab_language.specs.Meaning.{State, Run, goes, ends, failed, missing, M, gives, holds, equals, compares, operate, form_step, value, values}
use Rattle.fab_language.proofs.HeapExamples.{root, heap}
use Rattle.fab_language.proofs.Forms.{expression_at, operand_at, number_means, read_means, unary_means, chain_means, operand_means}

-- ---- operators

-- a state with these locals, over the two roots
abbrev pub state : List Value → State
state locals = record { fuel = 9; locals = locals; heap = heap [] []; touches = []; downs = []; given = [] }

abbrev pub int : ℤ → Value
int n = Int n

-- what an operator gives of two numbers
abbrev of_numbers : ℤ → Operator → ℤ → Run Value
of_numbers n operator k = operate operator (int n) (int k) (state [])

-- that it is a number
abbrev is : ℤ → Run Value
is n = goes (int n) (state [])

sum_wraps : of_numbers (pos 2147483647) Add (pos 1) ≡ is (negsuc 2147483647)
unfolding int_wrap
sum_wraps = refl

difference_wraps : of_numbers (negsuc 2147483647) Subtract (pos 1) ≡ is (pos 2147483647)
unfolding int_wrap
difference_wraps = refl

product_wraps : of_numbers (pos 65536) Multiply (pos 32768) ≡ is (negsuc 2147483647)
unfolding int_wrap
product_wraps = refl

product_is_lost : of_numbers (pos 65536) Multiply (pos 65536) ≡ is (pos 0)
unfolding int_wrap
product_is_lost = refl

toward_zero : of_numbers (negsuc 6) Divide (pos 2) ≡ is (negsuc 2)
toward_zero = refl

quotient_wraps : of_numbers (negsuc 2147483647) Divide (negsuc 0) ≡ is (negsuc 2147483647)
quotient_wraps = refl

by_zero : of_numbers (pos 1) Divide (pos 0) ≡ ends failed (state [])
by_zero = refl

bits_of_both : of_numbers (pos 6) And (pos 3) ≡ is (pos 2)
bits_of_both = refl

bits_of_either : of_numbers (pos 6) Or (pos 3) ≡ is (pos 7)
bits_of_either = refl

-- -2 has all bits but the last
bits_of_a_negative : of_numbers (negsuc 1) And (pos 7) ≡ is (pos 6)
bits_of_a_negative = refl

negative_bits : of_numbers (negsuc 1) Or (pos 1) ≡ is (negsuc 0)
negative_bits = refl

-- ---- conditions and comparisons

zero_is_false : holds (int (pos 0)) ≡ false
zero_is_false = refl

other_numbers_are_true : holds (int (negsuc 0)) ≡ true
other_numbers_are_true = refl

same_numbers : equals (int (pos 5)) (int (pos 5)) ≡ true
same_numbers = refl

other_sign : equals (int (pos 1)) (int (negsuc 0)) ≡ false
other_sign = refl

two_nulls : equals Null Null ≡ true
two_nulls = refl

null_is_no_object : equals Null (Ref (root 1)) ≡ false
null_is_no_object = refl

null_is_not_zero : equals Null (int (pos 0)) ≡ false
null_is_not_zero = refl

-- references are the same where their names are; the last of seven parts tells these apart
one_object : equals (Ref (root 1)) (Ref (root 1)) ≡ true
one_object = refl

two_objects : equals (Ref (root 1)) (Ref (record (root 1) { index = 1 })) ≡ false
two_objects = refl

not_the_same : compares NotEqual (Ref (root 1)) Null ≡ true
not_the_same = refl

negative_is_less : compares Less (int (negsuc 0)) (int (pos 0)) ≡ true
negative_is_less = refl

least_is_less : compares Less (int (negsuc 2147483647)) (int (pos 2147483647)) ≡ true
least_is_less = refl

not_less_than_itself : compares Less (int (pos 3)) (int (pos 3)) ≡ false
not_less_than_itself = refl

but_no_greater : compares LessEqual (int (pos 3)) (int (pos 3)) ≡ true
but_no_greater = refl

greater : compares Greater (int (pos 3)) (int (negsuc 3)) ≡ true
greater = refl

not_greater : compares Greater (int (pos 3)) (int (pos 3)) ≡ false
not_greater = refl

no_less : compares GreaterEqual (int (pos 3)) (int (pos 3)) ≡ true
no_less = refl

less_after_all : compares GreaterEqual (int (pos 2)) (int (pos 3)) ≡ false
less_after_all = refl

-- ---- expressions, of parts; the locals a and b have a field each

abbrev pub used : ℕ → Use
used n = record { number = n; at = 0 }

-- the field of a local's object, at a site
abbrev field : ℕ → ℕ → M Value
field x site = form_step (f.Read (used x) 0 site)

abbrev number : ℤ → M Value
number n = gives (int n)

abbrev pub both : List Value
both = Ref (root 1) ∷ Ref (root 2) ∷ []

abbrev pub with_touches : List (ℕ × Oid) → State → State
with_touches touches t = record t { touches = touches }

field_is_read : field 0 4 (state both) ≡ goes (int (pos 7)) (with_touches ((4, root 1) ∷ []) (state both))
field_is_read = refl

-- null fails and touches nothing
null_fails : field 0 4 (state (Null ∷ [])) ≡ ends failed (state (Null ∷ []))
null_fails = refl

number_has_no_field : field 0 4 (state (int (pos 1) ∷ [])) ≡ ends failed (state (int (pos 1) ∷ []))
number_has_no_field = refl

not_there : field 0 4 (state (Ref (root 3) ∷ [])) ≡ ends (missing 4 (root 3)) (state (Ref (root 3) ∷ []))
not_there = refl

-- `a.f - b.f`: the left operand comes first
left_first : form_step (f.Chain (field 0 4) ((Subtract, field 1 5) ∷ [])) (state both) ≡ goes (int (negsuc 0)) (with_touches ((4, root 1) ∷ (5, root 2) ∷ []) (state both))
unfolding int_wrap
left_first = refl

-- `9 - 2 - 3` is 4, and not 10
from_the_left : form_step (f.Chain (number (pos 9)) ((Subtract, number (pos 2)) ∷ (Subtract, number (pos 3)) ∷ [])) (state []) ≡ is (pos 4)
unfolding int_wrap
from_the_left = refl

-- `1 / 0 * a.f` fails before it reads, and `a.f * (1 / 0)` behind it
nothing_is_read : form_step (f.Chain (number (pos 1)) ((Divide, number (pos 0)) ∷ (Multiply, field 0 4) ∷ [])) (state both) ≡ ends failed (state both)
nothing_is_read = refl

read_before : form_step (f.Chain (field 0 4) ((Multiply, form_step (f.Chain (number (pos 1)) ((Divide, number (pos 0)) ∷ []))) ∷ [])) (state both) ≡ ends failed (with_touches ((4, root 1) ∷ []) (state both))
read_before = refl

-- both operands of `&` are evaluated, also where the first is 0
zero_and : form_step (f.Chain (number (pos 0)) ((And, field 0 4) ∷ [])) (state both) ≡ goes (int (pos 0)) (with_touches ((4, root 1) ∷ []) (state both))
zero_and = refl

-- the left side of a comparison comes first
left_side_first : form_step (f.Compared (field 1 4) Greater (field 0 4)) (state both) ≡ goes (int (pos 1)) (with_touches ((4, root 2) ∷ (4, root 1) ∷ []) (state both))
left_side_first = refl

none_is_null : form_step (f.Compared (form_step (f.Local (used 0))) Equal (form_step f.Null)) (state both) ≡ goes (int (pos 0)) (state both)
none_is_null = refl

not_five : form_step (f.Unary unary.Not (number (pos 5))) (state []) ≡ is (pos 0)
not_five = refl

not_zero : form_step (f.Unary unary.Not (number (pos 0))) (state []) ≡ is (pos 1)
not_zero = refl

-- `-(-2147483648)` wraps
least_negated : form_step (f.Unary unary.Negative (number (negsuc 2147483647))) (state []) ≡ is (negsuc 2147483647)
unfolding int_wrap
least_negated = refl

-- ---- whole expressions

-- `-1 & !0 | 4`, in which `&` binds closer
in_levels : value (expression_at 0 (f.Chain (expression_at 0 (f.Chain (expression_at 0 (f.Unary unary.Negative (expression_at 1 (f.Number (numbers.Int (pos 1)))))) (operand_at 3 And (expression_at 5 (f.Unary unary.Not (expression_at 6 (f.Number (numbers.Int (pos 0)))))) ∷ []))) (operand_at 8 Or (expression_at 10 (f.Number (numbers.Int (pos 4)))) ∷ []))) (state []) ≡ is (pos 5)
unfolding int_wrap
in_levels = rw (chain_means, chain_means, unary_means, number_means, operand_means, unary_means, number_means, operand_means, number_means) refl

-- arguments come from the left: the second is missing, the third isn't sought
arguments_in_order : values (expression_at 0 (f.Read (used 0) 0 4) ∷ expression_at 0 (f.Read (used 1) 0 5) ∷ expression_at 0 (f.Read (used 2) 0 6) ∷ []) (state (Ref (root 1) ∷ Ref (root 3) ∷ Ref (root 4) ∷ [])) ≡ ends (missing 5 (root 3)) (with_touches ((4, root 1) ∷ []) (state (Ref (root 1) ∷ Ref (root 3) ∷ Ref (root 4) ∷ [])))
arguments_in_order = rw (read_means, read_means) refl
