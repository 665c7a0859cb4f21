-- The grammar of methods, and of a program.
use Rattle.std.specs.Prelude.{Bool, true, false, List, [], ◌∷◌, Option, Some, None}
use Rattle.fab_base.specs.declared.token.Mark.TheVariants as m
use Rattle.fab_base.specs.declared.token.Token.{Token}
use Rattle.fab_tree.specs.declared.name.Name.{Name}
use Rattle.fab_tree.specs.declared.declaration.Sort.{Sort}
use Rattle.fab_tree.specs.declared.declaration.Node.{Node}
use Rattle.fab_tree.specs.declared.declaration.Delegation.{Delegation}
use Rattle.fab_tree.specs.declared.declaration.LabelText.{LabelText}
use Rattle.fab_tree.specs.declared.declaration.Class.{Class}
use Rattle.fab_tree.specs.declared.expression.Expression.{Expression}
use Rattle.fab_tree.specs.declared.statement.Statement.{Statement}
use Rattle.fab_tree.specs.declared.program.Parameter.{Parameter}
use Rattle.fab_tree.specs.declared.program.Returns.{Returns}
use Rattle.fab_tree.specs.declared.program.Return.{Return}
use Rattle.fab_tree.specs.declared.program.Method.{Method}
use Rattle.fab_tree.specs.declared.program.Program.{Program}
use Rattle.fab_tree.specs.Lists.{Is, IsName, Repeated, Perhaps, Behind, Separated}
use Rattle.fab_tree.specs.Declarations.{IsNode, IsDelegation, IsLabel, IsSort, IsClass}
use Rattle.fab_tree.specs.Expressions.{IsExpression}
use Rattle.fab_tree.specs.Statements.{IsStatement}

-- parameter = sort name ":" name
pub data IsParameter : List Token → Parameter → List Token → Type 0 where
  parameter : {a b c d e : List Token} {x : Sort} {y z : Name}
      → IsSort a x b → IsName b y c → Is m.Colon c d → IsName d z e
      → IsParameter a (record { sort = x; name = y; label = z }) e

-- sort ":" name, behind "returns"
pub data IsReturns : List Token → Returns → List Token → Type 0 where
  returns : {a b c d : List Token} {x : Sort} {y : Name}
      → IsSort a x b → Is m.Colon b c → IsName c y d → IsReturns a (record { sort = x; label = y }) d

-- ["fails"]
pub data IsFails : List Token → Bool → List Token → Type 0 where
  safe : {a : List Token} → IsFails a false a
  fails : {a b : List Token} → Is m.Fails a b → IsFails a true b

-- ["authority" name {"," name}]
pub data IsAuthority : List Token → List Name → List Token → Type 0 where
  nobody : {a : List Token} → IsAuthority a [] a
  authority : {a b c d : List Token} {x : Name} {xs : List Name}
      → Is m.Authority a b → IsName b x c → Repeated (Behind m.Comma IsName) c xs d → IsAuthority a (x ∷ xs) d

-- result = "return" expression ";"
pub data IsReturn : List Token → Return → List Token → Type 0 where
  return_ : {o : Token} {os b c d : List Token} {t : Expression}
      → Is m.Return (o ∷ os) b → IsExpression b t c → Is m.Semicolon c d
      → IsReturn (o ∷ os) (record { value = t; at = o.at }) d

-- [result]
pub data IsResult : List Token → Option Return → List Token → Type 0 where
  no_result : {a : List Token} → IsResult a None a
  result : {a b : List Token} {x : Return} → IsReturn a x b → IsResult a (Some x) b

-- method = "method" name "(" [parameter {"," parameter}] ")" ["returns" sort ":" name]
--          "begin" name ["fails"] ["authority" name {"," name}] "{" {statement} [result] "}"
pub data IsMethod : List Token → Method → List Token → Type 0 where
  method : {a b c d e f g h i j k l n o p : List Token} {x : Name} {ys : List Parameter} {z : Option Returns}
      {u : Name} {v : Bool} {ws : List Name} {ts : List Statement} {q : Option Return}
      → Is m.Method a b → IsName b x c
      → Is m.LeftParen c d → Separated m.Comma IsParameter d ys e → Is m.RightParen e f
      → Perhaps m.Returns IsReturns f z g → Is m.Begin g h → IsName h u i → IsFails i v j → IsAuthority j ws k
      → Is m.LeftBrace k l → Repeated IsStatement l ts n → IsResult n q o → Is m.RightBrace o p
      → IsMethod a (record { name = x; parameters = ys; returns = z; begin = u; fails = v; authority = ws; body = ts; result = q }) p

-- program = {node} {delegation} {label} {class} {method}
pub data IsProgram : List Token → Program → List Token → Type 0 where
  program : {a b c d e f : List Token}
      {ts : List Node} {us : List Delegation} {vs : List LabelText} {ws : List Class} {xs : List Method}
      → Repeated IsNode a ts b → Repeated IsDelegation b us c → Repeated IsLabel c vs d → Repeated IsClass d ws e
      → Repeated IsMethod e xs f
      → IsProgram a (record { nodes = ts; delegations = us; labels = vs; classes = ws; methods = xs }) f
