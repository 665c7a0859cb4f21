-- What names and values stand in a method, and which locals are known there.
--
-- A local is known from the end of its declaration to the end of its block. So a method comes to a list of heads,
-- what each statement holds outside its blocks, each with the locals that are known where it stands.
use Rattle.std.specs.Prelude.{List, [], ◌∷◌, ◌++◌, map, Option, Some, None}
use Rattle.fab_tree.specs.declared.name.Name.{Name}
use Rattle.fab_tree.specs.declared.declaration.Sort.{Sort}
use Rattle.fab_tree.specs.declared.expression.Expression.{Expression}
use Rattle.fab_tree.specs.declared.statement.Right.{Right}
use Rattle.fab_tree.specs.declared.statement.Statement.{Statement, fold-Statement}
use Rattle.fab_tree.specs.declared.statement.Statement.TheOpen as s
use Rattle.fab_tree.specs.declared.program.Parameter.{Parameter}
use Rattle.fab_tree.specs.declared.program.Return.{Return}
use Rattle.fab_tree.specs.declared.program.Method.{Method}

-- the locals that are known at a place, parameters first, in the order of their declarations
abbrev pub Locals : Type 0
Locals = List Parameter

pub data Head : Type 0 where
  -- T x : L = e
  declare : Sort → Name → Name → Expression → Head
  -- x = ..
  assign : Name → Right → Head
  -- x.f = e
  write : Name → Name → Expression → Head
  -- m(..)
  call : Name → List Expression → Head
  -- the condition of an if or a while
  test : Expression → Head
  -- atomic L
  atomic : Name → Head
  -- return e
  result : Return → Head

-- some heads, each with the locals known there, and the locals known behind them
pub record Stretch : Type 0 where
  pub heads : List (Locals × Head)
  pub behind : Locals

-- from the locals known in front
abbrev pub Walk : Type 0
Walk = Locals → Stretch

-- a head with no blocks, behind which the same locals are known
abbrev pub alone : Head → Walk
alone h known = record { heads = (known, h) ∷ []; behind = known }

-- these in a row
abbrev pub in_row : List Walk → Walk
in_row [] known = record { heads = []; behind = known }
in_row (w ∷ ws) known = let a = w known in let b = in_row ws a.behind in record { heads = a.heads ++ b.heads; behind = b.behind }

-- what a block declares is known in it alone
abbrev pub in_block : List Walk → Locals → List (Locals × Head)
in_block ws known = (in_row ws known).heads

abbrev pub in_other : Option (List Walk) → Locals → List (Locals × Head)
in_other None known = []
in_other (Some ws) known = in_block ws known

abbrev pub walk_step : s.Statement-F Walk → Walk
walk_step (s.Declare t x l e at) known =
    record { heads = (known, declare t x l e) ∷ []; behind = known ++ record { sort = t; name = x; label = l } ∷ [] }
walk_step (s.Assign x r) known = alone (assign x r) known
walk_step (s.Write x y e) known = alone (write x y e) known
walk_step (s.Call m es) known = alone (call m es) known
walk_step (s.If e block otherwise) known =
    record { heads = (known, test e) ∷ in_block block known ++ in_other otherwise known; behind = known }
walk_step (s.While e block) known = record { heads = (known, test e) ∷ in_block block known; behind = known }
walk_step (s.Atomic l block otherwise at) known =
    record { heads = (known, atomic l) ∷ in_block block known ++ in_block otherwise known; behind = known }
walk_step (s.Fail at) known = record { heads = []; behind = known }

abbrev pub walk : Statement → Walk
walk = fold-Statement Walk walk_step

-- the heads of these statements, over the locals known where they begin
abbrev pub heads_in : List Statement → Walk
heads_in ss = in_row (map walk ss)

abbrev pub result_heads : Option Return → Locals → List (Locals × Head)
result_heads None known = []
result_heads (Some x) known = (known, result x) ∷ []

-- the heads of a method in the order of the text
abbrev pub heads_of : Method → List (Locals × Head)
heads_of m = let body = heads_in m.body m.parameters in body.heads ++ result_heads m.result body.behind
