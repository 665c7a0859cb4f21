-- Values that are given to something.
use Rattle.std.specs.Prelude.{List, ◌++◌}
use Rattle.fab_tree.specs.declared.expression.Expression.{Expression}
use Rattle.fab_tree.specs.declared.start.Start.{Start}
use Rattle.fab_language.specs.declared.rule.Fault.{Fault}
use Rattle.fab_language.specs.Heads.{Locals}
use Rattle.fab_language.specs.Kinds.{Kind}
use Rattle.fab_language.specs.Types.{given_to, in_expression, typed}

-- what is wrong in an expression, and in that its value is given to what holds this kind
abbrev pub in_value : Start → Locals → Kind → Expression → List Fault
in_value s known taker e = in_expression s known e ++ given_to taker (typed s known e)
