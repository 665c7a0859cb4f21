-- The grammar of what a program declares besides its methods: nodes, delegations, labels and classes.
use Rattle.std.specs.Prelude.{Bool, true, false, List}
use Rattle.fab_base.specs.declared.object.Width.{Width}
use Rattle.fab_base.specs.declared.token.Mark.TheVariants as m
use Rattle.fab_base.specs.declared.token.Token.{Token}
use Rattle.fab_tree.specs.declared.name.Name.{Name}
use Rattle.fab_tree.specs.declared.declaration.Role.{Role}
use Rattle.fab_tree.specs.declared.declaration.Role.TheVariants as r
use Rattle.fab_tree.specs.declared.declaration.Node.{Node}
use Rattle.fab_tree.specs.declared.declaration.Delegation.{Delegation}
use Rattle.fab_tree.specs.declared.declaration.Aspect.{Aspect}
use Rattle.fab_tree.specs.declared.declaration.Aspect.TheVariants as aspects
use Rattle.fab_tree.specs.declared.declaration.PolicyText.{PolicyText}
use Rattle.fab_tree.specs.declared.declaration.LabelText.{LabelText}
use Rattle.fab_tree.specs.declared.declaration.Sort.{Sort}
use Rattle.fab_tree.specs.declared.declaration.Sort.TheVariants as sorts
use Rattle.fab_tree.specs.declared.declaration.Field.{Field}
use Rattle.fab_tree.specs.declared.declaration.Class.{Class}
use Rattle.fab_tree.specs.Lists.{Is, IsName, Repeated, Separated}
use Rattle.fab_tree.specs.Marks.{width_mark}

-- machine = "worker" | "store", behind "hostile" or not
pub data IsMachine : Bool → List Token → Role → List Token → Type 0 where
  worker : {hostile : Bool} {a b : List Token} → Is m.Worker a b → IsMachine hostile a (r.Worker hostile) b
  store : {hostile : Bool} {a b : List Token} → Is m.Store a b → IsMachine hostile a (r.Store hostile) b

-- role = "principal" | ["hostile"] machine
pub data IsRole : List Token → Role → List Token → Type 0 where
  principal : {a b : List Token} → Is m.Principal a b → IsRole a r.Principal b
  honest : {a b : List Token} {x : Role} → IsMachine false a x b → IsRole a x b
  hostile : {a b c : List Token} {x : Role} → Is m.Hostile a b → IsMachine true b x c → IsRole a x c

-- node = role name ";"
pub data IsNode : List Token → Node → List Token → Type 0 where
  node : {a b c d : List Token} {x : Role} {y : Name}
      → IsRole a x b → IsName b y c → Is m.Semicolon c d → IsNode a (record { role = x; name = y }) d

-- delegation = name "actsfor" name ";"
pub data IsDelegation : List Token → Delegation → List Token → Type 0 where
  delegation : {a b c d e : List Token} {x y : Name}
      → IsName a x b → Is m.ActsFor b c → IsName c y d → Is m.Semicolon d e
      → IsDelegation a (record { actor = x; principal = y }) e

-- aspect = "->" | "<-"
pub data IsAspect : List Token → Aspect → List Token → Type 0 where
  readers : {a b : List Token} → Is m.Arrow a b → IsAspect a aspects.Confidentiality b
  writers : {a b : List Token} → Is m.BackArrow a b → IsAspect a aspects.Integrity b

-- policy = name aspect [name {"," name}]
pub data IsPolicy : List Token → PolicyText → List Token → Type 0 where
  policy : {a b c d : List Token} {x : Name} {y : Aspect} {zs : List Name}
      → IsName a x b → IsAspect b y c → Separated m.Comma IsName c zs d
      → IsPolicy a (record { owner = x; aspect = y; others = zs }) d

-- label = "label" name "=" "{" [policy {";" policy}] "}" ";"
pub data IsLabel : List Token → LabelText → List Token → Type 0 where
  label : {a b c d e f g h : List Token} {x : Name} {ys : List PolicyText}
      → Is m.Label a b → IsName b x c → Is m.Equal c d → Is m.LeftBrace d e
      → Separated m.Semicolon IsPolicy e ys f → Is m.RightBrace f g → Is m.Semicolon g h
      → IsLabel a (record { name = x; policies = ys }) h

-- sort, a type = "int" | name
pub data IsSort : List Token → Sort → List Token → Type 0 where
  number : {a b : List Token} {w : Width} → Is (width_mark w) a b → IsSort a (sorts.Number w) b
  class : {a b : List Token} {x : Name} → IsName a x b → IsSort a (sorts.Class x) b

-- field = sort name ";"
pub data IsField : List Token → Field → List Token → Type 0 where
  field : {a b c d : List Token} {x : Sort} {y : Name}
      → IsSort a x b → IsName b y c → Is m.Semicolon c d → IsField a (record { sort = x; name = y }) d

-- class = "class" name "label" name "access" name "{" {field} "}"
pub data IsClass : List Token → Class → List Token → Type 0 where
  class : {a b c d e f g h i j : List Token} {x y z : Name} {ws : List Field}
      → Is m.Class a b → IsName b x c → Is m.Label c d → IsName d y e → Is m.Access e f → IsName f z g
      → Is m.LeftBrace g h → Repeated IsField h ws i → Is m.RightBrace i j
      → IsClass a (record { name = x; label = y; access = z; fields = ws }) j
