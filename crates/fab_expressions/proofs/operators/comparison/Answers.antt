use Rattle.fab_tree.specs.Expressions.{equal, not_equal, less, less_equal, greater, greater_equal}
use Rattle.fab_expressions.proofs.OperatorRules.{no_comparison}
use Rattle.fab_expressions.proofs.operators.comparison.Goals as goal

pub returns-in-Some : goal.returns-in-Some
returns-in-Some c = equal c.in-Some.ensures

pub returns-in-Some-behind : goal.returns-in-Some-behind
returns-in-Some-behind c = not_equal c.in-Some-behind.ensures

pub returns-in-Some-behind-2 : goal.returns-in-Some-behind-2
returns-in-Some-behind-2 c = less c.in-Some-behind-2.ensures

pub returns-in-Some-behind-3 : goal.returns-in-Some-behind-3
returns-in-Some-behind-3 c = less_equal c.in-Some-behind-3.ensures

pub returns-in-Some-behind-4 : goal.returns-in-Some-behind-4
returns-in-Some-behind-4 c = greater c.in-Some-behind-4.ensures

pub returns-in-Some-behind-5 : goal.returns-in-Some-behind-5
returns-in-Some-behind-5 c = greater_equal c.in-Some-behind-5.ensures

pub returns-in-None : goal.returns-in-None
returns-in-None c =
    no_comparison c.args.tokens.now c.in_default.ensures c.in_default-behind.ensures c.in_default-behind-2.ensures c.in_default-behind-3.ensures c.in_default-behind-4.ensures c.in-None.ensures
