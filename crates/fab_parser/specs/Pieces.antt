-- The pieces of statements, methods and programs that are read by themselves, what they begin with, and what may follow them.
use Rattle.std.specs.Prelude.{ℕ, Bool, true, false, IsTrue, List, [], ◌∷◌, Option}
use Rattle.fab_base.specs.declared.token.Mark.TheVariants as m
use Rattle.fab_base.specs.declared.token.Kind.{Kind}
use Rattle.fab_base.specs.declared.token.Kind.TheVariants as k
use Rattle.fab_base.specs.declared.token.Token.{Token}
use Rattle.fab_tree.specs.declared.name.Name.{Name}
use Rattle.fab_tree.specs.declared.declaration.Sort.{Sort}
use Rattle.fab_tree.specs.declared.expression.Expression.{Expression}
use Rattle.fab_tree.specs.declared.statement.Downgrade.{Downgrade}
use Rattle.fab_tree.specs.declared.statement.Right.{Right}
use Rattle.fab_tree.specs.declared.statement.Right.TheVariants as rights
use Rattle.fab_tree.specs.declared.statement.Statement.{Statement}
use Rattle.fab_tree.specs.declared.statement.Statement.TheVariants as s
use Rattle.fab_tree.specs.Lists.{Is, IsName, Ended}
use Rattle.fab_tree.specs.Expressions.{IsExpression, IsArguments}
use Rattle.fab_tree.specs.Statements.{IsRight, IsBlock, IsOtherwise}
use Rattle.fab_reading.specs.Reading.{BeginsWith, any, begins_node, begins_name, begins_label, begins_class, begins_method, begins_sort, is_comma, behind_items, behind_list}
use Rattle.fab_expressions.specs.Pieces.{after_expression}

-- ---- expressions in statements

-- "(" x ")"
pub data Bracketed {A : Type 0} (P : List Token → A → List Token → Type 0) : List Token → A → List Token → Type 0 where
  bracketed : {a b c d : List Token} {x : A} → Is m.LeftParen a b → P b x c → Is m.RightParen c d → Bracketed P a x d

-- expression ";"
abbrev pub IsValue : List Token → Expression → List Token → Type 0
IsValue = Ended m.Semicolon IsExpression

-- ---- what is assigned

-- name "@" name "(" arguments ")", behind `new` at a place
pub data IsCreated (at : ℕ) : List Token → Right → List Token → Type 0 where
  created : {a b c d e : List Token} {x y : Name} {ts : List Expression}
      → IsName a x b → Is m.At b c → IsName c y d → Bracketed IsArguments d ts e → IsCreated at a (rights.New x y ts at) e

-- "(" expression "," name "to" name ")", behind a word for a downgrade at a place
pub data IsLowered (w : Downgrade) (at : ℕ) : List Token → Right → List Token → Type 0 where
  lowered : {a b c d e f g h : List Token} {t : Expression} {x y : Name}
      → Is m.LeftParen a b → IsExpression b t c → Is m.Comma c d → IsName d x e → Is m.To e f → IsName f y g → Is m.RightParen g h
      → IsLowered w at a (rights.Downgrade w t x y at) h

-- "(" arguments ")", behind the name of a method
pub data IsCalled (x : Name) : List Token → Right → List Token → Type 0 where
  called : {a b : List Token} {ts : List Expression} → Bracketed IsArguments a ts b → IsCalled x a (rights.Call x ts) b

abbrev pub begins_downgrade : Kind → Bool
begins_downgrade (k.Fixed m.Declassify) = true
begins_downgrade (k.Fixed m.Endorse) = true
begins_downgrade _ = false

-- a name and an opening bracket
abbrev pub BeginsCall : List Token → Type 0
BeginsCall [] = ⊥
BeginsCall (t ∷ ts) = IsTrue (begins_name t.kind) × BeginsWith m.LeftParen ts

-- a name goes on with a bracket, too
abbrev pub begins_arguments : Kind → Bool
begins_arguments (k.Fixed m.LeftParen) = true
begins_arguments _ = false

abbrev pub after_right : Kind → Bool
after_right = behind_list begins_arguments after_expression

-- ---- statements

-- name ":" name "=" expression ";", behind a type; the declaration begins at a place
pub data IsDeclared (x : Sort) (at : ℕ) : List Token → Statement → List Token → Type 0 where
  declared : {a b c d e f : List Token} {y z : Name} {t : Expression}
      → IsName a y b → Is m.Colon b c → IsName c z d → Is m.Equal d e → IsValue e t f → IsDeclared x at a (s.Declare x y z t at) f

-- right ";", behind a name and "="
pub data IsAssigned (x : Name) : List Token → Statement → List Token → Type 0 where
  assigned : {a b c : List Token} {t : Right} → IsRight a t b → Is m.Semicolon b c → IsAssigned x a (s.Assign x t) c

-- name "=" expression ";", behind a name and "."
pub data IsWritten (x : Name) : List Token → Statement → List Token → Type 0 where
  written : {a b c d : List Token} {y : Name} {t : Expression}
      → IsName a y b → Is m.Equal b c → IsValue c t d → IsWritten x a (s.Write x y t) d

-- "(" arguments ")" ";", behind the name of a method
pub data IsRequested (x : Name) : List Token → Statement → List Token → Type 0 where
  requested : {a b c : List Token} {ts : List Expression}
      → Bracketed IsArguments a ts b → Is m.Semicolon b c → IsRequested x a (s.Call x ts) c

-- "(" expression ")" block otherwise, behind `if`
pub data IsChoice : List Token → Statement → List Token → Type 0 where
  branched : {a b c d : List Token} {t : Expression} {us : List Statement} {ws : Option (List Statement)}
      → Bracketed IsExpression a t b → IsBlock b us c → IsOtherwise c ws d → IsChoice a (s.If t us ws) d

-- "(" expression ")" block, behind `while`
pub data IsLoop : List Token → Statement → List Token → Type 0 where
  looped : {a b c : List Token} {t : Expression} {us : List Statement}
      → Bracketed IsExpression a t b → IsBlock b us c → IsLoop a (s.While t us) c

-- name block "else" block, behind `atomic` at a place
pub data IsAttempt (at : ℕ) : List Token → Statement → List Token → Type 0 where
  attempted : {a b c d e : List Token} {x : Name} {us ws : List Statement}
      → IsName a x b → IsBlock b us c → Is m.Else c d → IsBlock d ws e → IsAttempt at a (s.Atomic x us ws at) e

-- ";", behind `fail` at a place
pub data IsFailure (at : ℕ) : List Token → Statement → List Token → Type 0 where
  failed : {a b : List Token} → Is m.Semicolon a b → IsFailure at a (s.Fail at) b

abbrev pub begins_statement : Kind → Bool
begins_statement (k.Name x) = true
begins_statement (k.Fixed m.Int) = true
begins_statement (k.Fixed m.If) = true
begins_statement (k.Fixed m.While) = true
begins_statement (k.Fixed m.Atomic) = true
begins_statement (k.Fixed m.Fail) = true
begins_statement _ = false

-- a statement goes on with `else`
abbrev pub after_statement : Kind → Bool
after_statement (k.Fixed m.Else) = false
after_statement _ = true

abbrev pub behind_statements : Kind → Bool
behind_statements = behind_list begins_statement after_statement

-- ---- methods

-- what may follow parameters with commas between them
abbrev pub behind_parameters : Kind → Bool
behind_parameters = behind_items begins_sort is_comma any

-- the head of a method goes on with `returns` behind its parameters, with `fails` behind its label, and then with `authority`
abbrev pub after_parameters : Kind → Bool
after_parameters (k.Fixed m.Returns) = false
after_parameters _ = true

abbrev pub after_head : Kind → Bool
after_head (k.Fixed m.Fails) = false
after_head _ = true

abbrev pub begins_authority : Kind → Bool
begins_authority (k.Fixed m.Authority) = true
begins_authority _ = false

abbrev pub after_authority : Kind → Bool
after_authority = behind_items begins_authority is_comma any

-- a body goes on with `return`
abbrev pub after_body : Kind → Bool
after_body (k.Fixed m.Return) = false
after_body _ = true

-- ---- programs

-- what may follow a program: nothing that begins one more of its parts
abbrev pub after_program : Kind → Bool
after_program = behind_list begins_node (behind_list begins_name (behind_list begins_label (behind_list begins_class (behind_list begins_method any))))
