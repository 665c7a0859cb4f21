-- The grammar of statements.
use Rattle.std.specs.Prelude.{List, [], ◌∷◌, Option, Some, None}
use Rattle.fab_base.specs.declared.token.Mark.TheVariants as m
use Rattle.fab_base.specs.declared.token.Token.{Token}
use Rattle.fab_tree.specs.declared.name.Name.{Name}
use Rattle.fab_tree.specs.declared.declaration.Sort.{Sort}
use Rattle.fab_tree.specs.declared.expression.Expression.{Expression}
use Rattle.fab_tree.specs.declared.statement.Downgrade.{Downgrade}
use Rattle.fab_tree.specs.declared.statement.Downgrade.TheVariants as downgrades
use Rattle.fab_tree.specs.declared.statement.Right.{Right}
use Rattle.fab_tree.specs.declared.statement.Right.TheVariants as rights
use Rattle.fab_tree.specs.declared.statement.Statement.{Statement}
use Rattle.fab_tree.specs.declared.statement.Statement.TheVariants as s
use Rattle.fab_tree.specs.Lists.{Is, IsName}
use Rattle.fab_tree.specs.Declarations.{IsSort}
use Rattle.fab_tree.specs.Expressions.{IsExpression, IsArguments}

-- downgrade = "declassify" | "endorse"
pub data IsDowngrade : List Token → Downgrade → List Token → Type 0 where
  declassify : {a b : List Token} → Is m.Declassify a b → IsDowngrade a downgrades.Declassify b
  endorse : {a b : List Token} → Is m.Endorse a b → IsDowngrade a downgrades.Endorse b

-- right = expression
--       | name "(" arguments ")"
--       | "new" name "@" name "(" arguments ")"
--       | downgrade "(" expression "," name "to" name ")"
pub data IsRight : List Token → Right → List Token → Type 0 where
  plain : {a b : List Token} {t : Expression} → IsExpression a t b → IsRight a (rights.Plain t) b
  call : {a b c d e : List Token} {x : Name} {ts : List Expression}
      → IsName a x b → Is m.LeftParen b c → IsArguments c ts d → Is m.RightParen d e
      → IsRight a (rights.Call x ts) e
  new : {o : Token} {os b c d e f g h : List Token} {x y : Name} {ts : List Expression}
      → Is m.New (o ∷ os) b → IsName b x c → Is m.At c d → IsName d y e
      → Is m.LeftParen e f → IsArguments f ts g → Is m.RightParen g h
      → IsRight (o ∷ os) (rights.New x y ts o.at) h
  downgrade : {o : Token} {os b c d e f g h i : List Token} {w : Downgrade} {t : Expression} {x y : Name}
      → IsDowngrade (o ∷ os) w b → Is m.LeftParen b c → IsExpression c t d → Is m.Comma d e
      → IsName e x f → Is m.To f g → IsName g y h → Is m.RightParen h i
      → IsRight (o ∷ os) (rights.Downgrade w t x y o.at) i

mutual
  -- statement = sort name ":" name "=" expression ";"
  --           | name "=" right ";"
  --           | name "." name "=" expression ";"
  --           | name "(" arguments ")" ";"
  --           | "if" "(" expression ")" block otherwise
  --           | "while" "(" expression ")" block
  --           | "atomic" name block "else" block
  --           | "fail" ";"
  pub data IsStatement : List Token → Statement → List Token → Type 0 where
    declare : {o : Token} {os b c d f g h i : List Token} {x : Sort} {y z : Name} {t : Expression}
        → IsSort (o ∷ os) x b → IsName b y c → Is m.Colon c d → IsName d z f
        → Is m.Equal f g → IsExpression g t h → Is m.Semicolon h i
        → IsStatement (o ∷ os) (s.Declare x y z t o.at) i
    assign : {a b c d f : List Token} {x : Name} {t : Right}
        → IsName a x b → Is m.Equal b c → IsRight c t d → Is m.Semicolon d f → IsStatement a (s.Assign x t) f
    write : {a b c d f g h : List Token} {x y : Name} {t : Expression}
        → IsName a x b → Is m.Dot b c → IsName c y d → Is m.Equal d f → IsExpression f t g → Is m.Semicolon g h
        → IsStatement a (s.Write x y t) h
    call : {a b c d f g : List Token} {x : Name} {ts : List Expression}
        → IsName a x b → Is m.LeftParen b c → IsArguments c ts d → Is m.RightParen d f → Is m.Semicolon f g
        → IsStatement a (s.Call x ts) g
    choice : {a b c d f g h : List Token} {t : Expression} {us : List Statement} {ws : Option (List Statement)}
        → Is m.If a b → Is m.LeftParen b c → IsExpression c t d → Is m.RightParen d f
        → IsBlock f us g → IsOtherwise g ws h
        → IsStatement a (s.If t us ws) h
    loop : {a b c d f g : List Token} {t : Expression} {us : List Statement}
        → Is m.While a b → Is m.LeftParen b c → IsExpression c t d → Is m.RightParen d f → IsBlock f us g
        → IsStatement a (s.While t us) g
    atomic : {o : Token} {os b c d f g : List Token} {x : Name} {us ws : List Statement}
        → Is m.Atomic (o ∷ os) b → IsName b x c → IsBlock c us d → Is m.Else d f → IsBlock f ws g
        → IsStatement (o ∷ os) (s.Atomic x us ws o.at) g
    fail : {o : Token} {os b c : List Token}
        → Is m.Fail (o ∷ os) b → Is m.Semicolon b c → IsStatement (o ∷ os) (s.Fail o.at) c

  -- otherwise = ["else" block]
  pub data IsOtherwise : List Token → Option (List Statement) → List Token → Type 0 where
    no_else : {a : List Token} → IsOtherwise a None a
    some_else : {a b c : List Token} {us : List Statement}
        → Is m.Else a b → IsBlock b us c → IsOtherwise a (Some us) c

  -- block = "{" {statement} "}"
  pub data IsBlock : List Token → List Statement → List Token → Type 0 where
    block : {a b c d : List Token} {us : List Statement}
        → Is m.LeftBrace a b → IsStatements b us c → Is m.RightBrace c d → IsBlock a us d

  -- {statement}
  pub data IsStatements : List Token → List Statement → List Token → Type 0 where
    no_statement : {a : List Token} → IsStatements a [] a
    one_statement : {a b c : List Token} {u : Statement} {us : List Statement}
        → IsStatement a u b → IsStatements b us c → IsStatements a (u ∷ us) c
