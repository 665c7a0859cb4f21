use Rattle.fab_tree.specs.Expressions.{bar, ampersand, plus, dash, star, slash}
use Rattle.fab_expressions.proofs.OperatorRules.{no_bar, no_ampersand, no_sum_sign, no_product_sign}
use Rattle.fab_expressions.proofs.operators.operator.Goals as goal

pub returns-in-Some : goal.returns-in-Some
returns-in-Some c = rw c.in-Or.is (bar c.in-Some.ensures)

pub returns-in-None : goal.returns-in-None
returns-in-None c = rw c.in-Or.is (no_bar c.args.tokens.now c.in-None.ensures)

pub returns-in-Some-behind : goal.returns-in-Some-behind
returns-in-Some-behind c = rw c.in-And.is (ampersand c.in-Some-behind.ensures)

pub returns-in-None-behind : goal.returns-in-None-behind
returns-in-None-behind c = rw c.in-And.is (no_ampersand c.args.tokens.now c.in-None-behind.ensures)

pub returns-in-Some-behind-2 : goal.returns-in-Some-behind-2
returns-in-Some-behind-2 c = rw c.in-Sum.is (plus c.in-Some-behind-2.ensures)

pub returns-in-Some-behind-3 : goal.returns-in-Some-behind-3
returns-in-Some-behind-3 c = rw c.in-Sum.is (dash c.in-Some-behind-3.ensures)

pub returns-in-None-behind-2 : goal.returns-in-None-behind-2
returns-in-None-behind-2 c = rw c.in-Sum.is (no_sum_sign c.args.tokens.now c.in_default.ensures c.in-None-behind-2.ensures)

pub returns-in-Some-behind-4 : goal.returns-in-Some-behind-4
returns-in-Some-behind-4 c = rw c.in-Product.is (star c.in-Some-behind-4.ensures)

pub returns-in-Some-behind-5 : goal.returns-in-Some-behind-5
returns-in-Some-behind-5 c = rw c.in-Product.is (slash c.in-Some-behind-5.ensures)

pub returns-in-None-behind-3 : goal.returns-in-None-behind-3
returns-in-None-behind-3 c = rw c.in-Product.is (no_product_sign c.args.tokens.now c.in_default-behind.ensures c.in-None-behind-3.ensures)
